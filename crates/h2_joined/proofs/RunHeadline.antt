-- The headline of what is kept of two joined ends.
use Rattle.h2_joined.proofs.Names.{◌++◌, sym, ap, ◌∙◌, Values, SentMessage, Said, EndLog, said_for}
use Rattle.h2_joined.proofs.Names.{MessageToken, parts_heard, parts_said, IsPrefixOfParts, Kept}
use Rattle.h2_joined.proofs.Names.{Joined, JointEnd, Made, AreQuiet, KeepsHanded, KeepsEnd}
use Rattle.h2_joined.proofs.Names.{JoinedRepresents, ◌≡◌, ◌==◌, ℕ, List, [], ◌∷◌, refl, inl, inr}
use Rattle.h2_joined.proofs.Names.{said_shown, is_begun, cases_Bool}
use Rattle.std.proofs.Common.{map as each}
use Rattle.h2_laws_pair.specs.Tokens.{Form, AtOnce, Begun, Ended}
use Rattle.h2_ends.specs.MessageTokens.{parts_of_said}
use Rattle.h2_joined.specs.Runs.{parts_recorded, parts_accepted, AreInOrder, AreWhole, HasHeadline}
use Rattle.h2_joined.specs.Runs.{parts_shown, parts_shown_for}
use Rattle.h2_joined.proofs.RunLaws.{client_no_fault, server_no_fault, keep_at}
use Rattle.h2_joined.proofs.RunParts.{parts_begin_at_server, parts_begin_at_client}
use Rattle.h2_joined.proofs.RunParts.{parts_whole_at_server, parts_whole_at_client}

-- What is kept is what was handed out.
handed_same : (kept : Kept) (end : EndLog) (i : ℕ) → KeepsHanded kept.handed end.handed
    → parts_recorded kept i ≡ parts_heard i end.handed
handed_same kept end i keeps = sym (ap (parts_heard i) keeps.same)

-- What is shown of what was given has its parts, and its end where that was given.
shown_parts : (form : Form) (message : SentMessage)
    → parts_of_said (record { message = message; form = form })
    ≡ parts_shown (message, is_begun form)
unfolding parts_of_said
shown_parts AtOnce message = refl
shown_parts (Begun number) message = refl
shown_parts Ended message = refl

shown_for : (i : ℕ) (accepted : List (ℕ × Said))
    → parts_said (said_for i accepted) ≡ parts_shown_for i (each said_shown accepted)
unfolding parts_said said_for parts_shown_for
shown_for i [] = refl
shown_for i ((id, said) ∷ accepted) = elim (cases_Bool (id == i)) [
  | inl here ↦ rw here (shown_parts said.form said.message)
  | inr other ↦ rw other (shown_for i accepted)
]

-- What is kept as accepted was accepted.
accepted_same : (kept : Kept) (one : JointEnd) (i : ℕ) → KeepsEnd kept one
    → parts_said (said_for i one.happened.accepted) ≡ parts_accepted kept i
accepted_same kept one i keeps =
    shown_for i one.happened.accepted ∙ ap (parts_shown_for i) keeps.accepted

-- A prefix, by what it is and what it is of.
prefix_of_same : (one two whole other : List MessageToken) → one ≡ two
    → IsPrefixOfParts two whole → whole ≡ other → IsPrefixOfParts one other
prefix_of_same one two whole other is (more, all) same =
    (more, sym same ∙ all ∙ ap (λ (parts : List MessageToken). parts ++ more) (sym is))

module _ (client_values server_values : Values) (joined : Joined) (made : List Made)
    (client server : JointEnd) where
  pub in_order : JoinedRepresents client_values server_values joined made client server
      → AreInOrder joined
  in_order is = record {
    at_server_in_order = λ i.
        prefix_of_same (parts_recorded joined.at_server i) (parts_heard i server.happened.handed)
        (parts_said (said_for i client.happened.accepted)) (parts_accepted joined.at_client i)
        (handed_same joined.at_server server.happened i is.server_kept.handed)
        (parts_begin_at_server client_values server_values made client server i is.joint)
        (accepted_same joined.at_client client i is.client_kept);
    at_client_in_order = λ i.
        prefix_of_same (parts_recorded joined.at_client i) (parts_heard i client.happened.handed)
        (parts_said (said_for i server.happened.accepted)) (parts_accepted joined.at_server i)
        (handed_same joined.at_client client.happened i is.client_kept.handed)
        (parts_begin_at_client client_values server_values made client server i is.joint)
        (accepted_same joined.at_server server i is.server_kept);
  }

  pub are_whole : JoinedRepresents client_values server_values joined made client server
      → AreQuiet client server → AreWhole joined made client
  are_whole is quiet = record {
    at_server_whole = λ i not_reset.
        handed_same joined.at_server server.happened i is.server_kept.handed
        ∙ (parts_whole_at_server client_values server_values made client server i is.joint quiet
        not_reset ∙ accepted_same joined.at_client client i is.client_kept);
    at_client_whole = λ i not_reset.
        handed_same joined.at_client client.happened i is.client_kept.handed
        ∙ (parts_whole_at_client client_values server_values made client server i is.joint quiet
        not_reset ∙ accepted_same joined.at_server server i is.server_kept);
  }

  -- The headline holds of every two joined ends.
  pub has_headline : JoinedRepresents client_values server_values joined made client server
      → HasHeadline client_values server_values joined made client server
  has_headline is = record {
    in_order = in_order is;
    client_without_fault = client_no_fault client_values server_values made client server is.joint;
    server_without_fault = server_no_fault client_values server_values made client server is.joint;
    keep_windows = keep_at client_values server_values made client server is.joint;
    whole = are_whole is;
  }
