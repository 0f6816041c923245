-- Parts that were read, and one more.
use Rattle.h2_follow.proofs.Names.{◌≡◌, ◌∙◌, ◌++◌, ◌∷◌, ℕ, [], List, refl, sym, ap, subst, Side}
use Rattle.h2_follow.proofs.Names.{Client, Bool}
use Rattle.h2_follow.proofs.Names.{◌≢◌, OneSide, SideShows, length, take, Server, Frame, Stretches}
use Rattle.h2_follow.proofs.Names.{Stretch, Bound, append_assoc, append-nil}
use Rattle.h2_follow.proofs.Names.{output_of, marked_of, Follower, FollowerReads, Appends, Option}
use Rattle.h2_follow.proofs.SideLemmas.{side_so_far}
use Rattle.h2_follow.proofs.Names.{Result, Ok, Err, IfOk, true, false, inl, inr, ◌⊎◌, ◌+◌, arith}
use Rattle.h2_follow.proofs.Names.{common_steps}
use Rattle.std.proofs.Common.{min, ◌<◌, ◌≤◌, ◌-◌, drop}
use Rattle.std.proofs.lemmas.List.{take-append-drop}
use Rattle.h2_show.proofs.ViewerLemmas.{prefix_append}
use Rattle.std.proofs.KnownBytes.{Appends-trans}
use Rattle.h2_follow.specs.Follower.{FollowerReadsMore, IsOneOrNone, SideSteps}
use Rattle.h2_follow.specs.Follower.{after_all_others}
use Rattle.h2_follow.specs.Follower.{FollowerAdvances, FollowerSteps, after_owns, one_of}
use Rattle.h2_follow.specs.Follower.{stretch_of}
use Rattle.h2_follow.specs.Follows.{mark_of, marked}
use Rattle.h2_follow.specs.InForce.{SentFrame, after_others, after_own, bound_of, frame_bound}
use Rattle.h2_follow.specs.InForce.{in_force}
use Rattle.h2_follow.specs.InForce.{table_bound}
use Rattle.h2_follow.specs.Stretches.{AreOf, HasLimits, AreFollowed, sent_in, sent_by, octets_read}
use Rattle.h2_follow.specs.Stretches.{own_of, was_noted}
use Rattle.h2_follow.specs.Unchecked.{noted_with, unchecked_line}
use Rattle.h2_follow.specs.Follower.{NotesUnchecked}
use Rattle.std.proofs.Common.{Vec, Global}

-- the octets of stretches, and of others before them
pub octets_append : (newer older : Stretches)
    → octets_read (newer ++ older) ≡ octets_read older ++ octets_read newer
octets_append [] older = sym (append-nil (octets_read older))
octets_append (stretch ∷ newer) older =
    ap (λ (octets : List ℕ). octets ++ stretch.octets) (octets_append newer older)
    ∙ append_assoc (octets_read older) (octets_read newer) stretch.octets

-- what is printed of them
pub output_append : (newer older : Stretches)
    → output_of (newer ++ older) ≡ output_of older ++ output_of newer
output_append [] older = sym (append-nil (output_of older))
output_append (stretch ∷ newer) older =
    ap (λ (text : List ℕ). text ++ marked_of (stretch.side, stretch.notice ++ stretch.lines))
    (output_append newer older)
    ∙ append_assoc (output_of older) (output_of newer)
    (marked_of (stretch.side, stretch.notice ++ stretch.lines))

-- what is written of stretches, and of more
pub written_append : (start middle ended : Option (List ℕ)) (older newer : Stretches)
    → Appends start middle (output_of older) → Appends middle ended (output_of newer)
    → Appends start ended (output_of (newer ++ older))
written_append start middle ended older newer one two =
    subst (λ (lines : List ℕ). Appends start ended lines) (sym (output_append newer older))
    (Appends-trans start middle ended _ _ one two)

-- what a side may send after a frame of its own, or none
own_next : (side : Side) (frames : List Frame) → IsOneOrNone frames → (items : List SentFrame)
    (bound next : Bound) → bound ≡ in_force side items → next ≡ after_owns frames bound
    → next ≡ in_force side (sent_by side frames ++ items)
own_next Client [] few items bound next is now = now ∙ is
own_next Client (frame ∷ []) few items bound next is now = now ∙ ap (after_own frame) is
own_next Client (frame ∷ second ∷ more) few items bound next is now = absurd few
own_next Server [] few items bound next is now = now ∙ is
own_next Server (frame ∷ []) few items bound next is now = now ∙ ap (after_own frame) is
own_next Server (frame ∷ second ∷ more) few items bound next is now = absurd few

-- and after one of the other side
client_next : (frames : List Frame) → IsOneOrNone frames → (items : List SentFrame)
    (bound next : Bound) → bound ≡ in_force Client items → next ≡ after_all_others frames bound
    → next ≡ in_force Client (sent_by Server frames ++ items)
client_next [] few items bound next is now = now ∙ is
client_next (frame ∷ []) few items bound next is now = now ∙ ap (after_others frame) is
client_next (frame ∷ second ∷ more) few items bound next is now = absurd few

server_next : (frames : List Frame) → IsOneOrNone frames → (items : List SentFrame)
    (bound next : Bound) → bound ≡ in_force Server items → next ≡ after_all_others frames bound
    → next ≡ in_force Server (sent_by Client frames ++ items)
server_next [] few items bound next is now = now ∙ is
server_next (frame ∷ []) few items bound next is now = now ∙ ap (after_others frame) is
server_next (frame ∷ second ∷ more) few items bound next is now = absurd few

-- the limits of a stretch are those in force before it, and its notice is due by them
limits_known : (side : Side) (least : ℕ) (bound : Bound) (noted : Bool) (octets lines : List ℕ)
    (frames : List Frame) (before : Stretches) → bound ≡ in_force side (sent_in before)
    → noted ≡ was_noted side before
    → HasLimits least (stretch_of side least bound (unchecked_line noted bound) octets frames lines)
    before
limits_known side least bound noted octets lines frames before is said = (
  ap (λ (some : Bound). min (frame_bound least some) 1048576) is,
  ap table_bound is,
  ap (λ (some : Bool). unchecked_line some bound) said
      ∙ ap (unchecked_line (was_noted side before)) is,
)

-- what the follower has read, after a stretch of the client
client_reads : (old new : Follower) (text : Vec ℕ Global) (octets : List ℕ) (used : ℕ)
    → (steps : SideSteps Client (record old {
      text = text;
      is_client_noted = noted_with old.is_client_noted (bound_of old.client_bound);
    }) new octets used)
    → FollowerReadsMore old new (stretch_of Client old.least (bound_of old.client_bound)
    (unchecked_line old.is_client_noted (bound_of old.client_bound)) (take used octets)
    steps.0.frames steps.0.lines ∷ [])
client_reads old new text octets used (advances, same, client, least, lines, one, two) log reads =
    let notice : List ℕ = unchecked_line old.is_client_noted (bound_of old.client_bound) in
    let shows = advances.reads Client (own_of Client log) notice reads.client in
    record {
      client_may = own_next Client advances.frames advances.few (sent_in log) _ _
          reads.client_may advances.own_next;
      server_may = server_next advances.frames advances.few (sent_in log) _ _
          reads.server_may advances.others_next;
      client = shows;
      server = subst (λ (one : OneSide). SideShows one Server (own_of Server log)) (sym same)
          reads.server;
      client_said = one
          ∙ ap (λ (some : Bool). noted_with some (bound_of old.client_bound)) reads.client_said
          ∙ ap (noted_with (was_noted Client log)) reads.client_may;
      server_said = two ∙ reads.server_said;
      is_log = subst (λ (some : ℕ). AreFollowed some (stretch_of Client old.least
          (bound_of old.client_bound) notice (take used octets) advances.frames
          advances.lines ∷ log))
          (sym least) (
            limits_known Client old.least (bound_of old.client_bound) old.is_client_noted
                (take used octets) advances.lines advances.frames log reads.client_may
                reads.client_said,
            side_so_far new.client_side Client _ shows,
            reads.is_log,
          );
    }

-- and after one of the server
server_reads : (old new : Follower) (text : Vec ℕ Global) (octets : List ℕ) (used : ℕ)
    → (steps : SideSteps Server (record old {
      text = text;
      is_server_noted = noted_with old.is_server_noted (bound_of old.server_bound);
    }) new octets used)
    → FollowerReadsMore old new (stretch_of Server old.least (bound_of old.server_bound)
    (unchecked_line old.is_server_noted (bound_of old.server_bound)) (take used octets)
    steps.0.frames steps.0.lines ∷ [])
server_reads old new text octets used (advances, same, client, least, lines, one, two) log reads =
    let notice : List ℕ = unchecked_line old.is_server_noted (bound_of old.server_bound) in
    let shows = advances.reads Server (own_of Server log) notice reads.server in
    record {
      client_may = client_next advances.frames advances.few (sent_in log) _ _
          reads.client_may advances.others_next;
      server_may = own_next Server advances.frames advances.few (sent_in log) _ _
          reads.server_may advances.own_next;
      client = subst (λ (one : OneSide). SideShows one Client (own_of Client log)) (sym same)
          reads.client;
      server = shows;
      client_said = one ∙ reads.client_said;
      server_said = two
          ∙ ap (λ (some : Bool). noted_with some (bound_of old.server_bound)) reads.server_said
          ∙ ap (noted_with (was_noted Server log)) reads.server_may;
      is_log = subst (λ (some : ℕ). AreFollowed some (stretch_of Server old.least
          (bound_of old.server_bound) notice (take used octets) advances.frames
          advances.lines ∷ log))
          (sym least) (
            limits_known Server old.least (bound_of old.server_bound) old.is_server_noted
                (take used octets) advances.lines advances.frames log reads.server_may
                reads.server_said,
            side_so_far new.server_side Server _ shows,
            reads.is_log,
          );
    }

-- what was read where the text had been cleared and the notice, where it is due, was added
pub step_told : (side : Side) (old noted new : Follower) (octets : List ℕ) (used : ℕ)
    → old.text.items ≡ [] → NotesUnchecked side old noted → SideSteps side noted new octets used
    → (stretch : Stretch) × (stretch.side ≡ side) × (used ≤ length octets) × (octets ≢ [] → 0 < used)
    × (stretch.octets ≡ take used octets) × (new.text.items ≡ stretch.notice ++ stretch.lines)
    × FollowerReadsMore old new (stretch ∷ []) × (new.client ≡ old.client)
    × (new.least ≡ old.least) × (new.lines.items ≡ old.lines.items)
step_told Client old noted new octets used none (is, added) steps =
    let known : SideSteps Client (record old {
      text = noted.text;
      is_client_noted = noted_with old.is_client_noted (bound_of old.client_bound);
    }) new octets used = subst (λ (some : Follower). SideSteps Client some new octets used) is steps in (
      stretch_of Client old.least (bound_of old.client_bound)
          (unchecked_line old.is_client_noted (bound_of old.client_bound)) (take used octets)
          known.0.frames known.0.lines,
      refl,
      known.0.within,
      known.0.some,
      refl,
      known.0.adds ∙ ap (λ (text : List ℕ). text ++ known.0.lines)
          (added ∙ ap (λ (text : List ℕ). text
          ++ unchecked_line old.is_client_noted (bound_of old.client_bound)) none),
      client_reads old new noted.text octets used known,
      known.2,
      known.3,
      known.4,
    )
step_told Server old noted new octets used none (is, added) steps =
    let known : SideSteps Server (record old {
      text = noted.text;
      is_server_noted = noted_with old.is_server_noted (bound_of old.server_bound);
    }) new octets used = subst (λ (some : Follower). SideSteps Server some new octets used) is steps in (
      stretch_of Server old.least (bound_of old.server_bound)
          (unchecked_line old.is_server_noted (bound_of old.server_bound)) (take used octets)
          known.0.frames known.0.lines,
      refl,
      known.0.within,
      known.0.some,
      refl,
      known.0.adds ∙ ap (λ (text : List ℕ). text ++ known.0.lines)
          (added ∙ ap (λ (text : List ℕ). text
          ++ unchecked_line old.is_server_noted (bound_of old.server_bound)) none),
      server_reads old new noted.text octets used known,
      known.2,
      known.3,
      known.4,
    )

-- whether a side is over is not changed by the notice
over_same : (side : Side) (old noted : Follower) → NotesUnchecked side old noted
    → (one_of side old).is_over ≡ false → (one_of side noted).is_over ≡ false
over_same Client old noted (is, added) goes =
    ap (λ (some : Follower). some.client_side.is_over) is ∙ goes
over_same Server old noted (is, added) goes =
    ap (λ (some : Follower). some.server_side.is_over) is ∙ goes

-- what was read of octets, and its lines added after the mark
pub part_told : {E : Type 0} (result : Result ℕ E) (old noted shown new : Follower) (text : Vec ℕ Global)
    (side : Side) (octets mark : List ℕ) → text.items ≡ []
    → NotesUnchecked side (record old { text = text }) noted
    → ((log : Stretches) → FollowerReads shown log → FollowerReads new log)
    → new.client ≡ shown.client → new.least ≡ shown.least
    → IfOk result (λ used. (one_of side noted).is_over ≡ false
    → SideSteps side noted shown octets used)
    → new.lines.items ≡ shown.lines.items ++ marked mark true shown.text.items
    → mark ≡ mark_of side
    → IfOk result (λ used. (one_of side old).is_over ≡ false
    → FollowerSteps old new side octets used)
part_told (Err error) old noted shown new text side octets mark cleared notes after new_client
    new_least told written is = tt
part_told (Ok used) old noted shown new text side octets mark cleared notes after new_client
    new_least told written is = λ goes.
    let cleared_one : Follower = record old { text = text } in
    let over : (one_of side noted).is_over ≡ false =
    over_same side cleared_one noted notes (side_over side goes) in
    let (stretch, side_is, within, some, octets_are, text_is, reads, client_is, least_is, lines_are) =
    step_told side cleared_one noted shown octets used cleared notes (told over) in
    record {
      stretch = stretch;
      of = side_is;
      within = within;
      some = some;
      octets_are = octets_are;
      written = written
          ∙ ap (λ (before : List ℕ). before ++ marked mark true shown.text.items) lines_are
          ∙ ap (λ (text : List ℕ). old.lines.items ++ marked mark true text) text_is
          ∙ ap (λ (text : List ℕ). old.lines.items
          ++ marked text true (stretch.notice ++ stretch.lines))
          (is ∙ ap mark_of (sym side_is));
      reads = λ log known. after (stretch ∷ log) (reads log known);
      client = new_client ∙ client_is;
      least = new_least ∙ least_is;
    }
  where
    side_over : (side : Side) → (one_of side old).is_over ≡ false
        → (one_of side (record old { text = text })).is_over ≡ false
    side_over Client goes = goes
    side_over Server goes = goes

-- Parts that were read, and one more of the octets that follow.
pub read_next : (old mid new : Follower) (side : Side) (octets : List ℕ) (done used : ℕ)
    → (read : (newer : Stretches) × AreOf side newer × (take done octets ≡ octets_read newer)
    × (mid.lines.items ≡ old.lines.items ++ output_of newer) × FollowerReadsMore old mid newer)
    → FollowerSteps mid new side (take (length octets - done) (drop done octets)) used
    → (newer : Stretches) × AreOf side newer × (take (done + used) octets ≡ octets_read newer)
    × (new.lines.items ≡ old.lines.items ++ output_of newer) × FollowerReadsMore old new newer
read_next old mid new side octets done used (newer, of, taken, lines, reads) steps = (
  steps.stretch ∷ newer,
  (steps.of, of),
  sym (prefix_append octets done used)
      ∙ ap (λ (first : List ℕ). first ++ take used (take (length octets - done)
      (drop done octets))) taken
      ∙ ap (λ (last : List ℕ). octets_read newer ++ last) (sym steps.octets_are),
  steps.written
      ∙ ap (λ (text : List ℕ). text
      ++ marked_of (steps.stretch.side, steps.stretch.notice ++ steps.stretch.lines)) lines
      ∙ append_assoc old.lines.items (output_of newer)
      (marked_of (steps.stretch.side, steps.stretch.notice ++ steps.stretch.lines)),
  λ log known. steps.reads (newer ++ log) (reads log known),
)

-- nothing follows the octets that were used, where all were
drop_all : (octets : List ℕ) (done : ℕ) → length octets ≤ done → drop done octets ≡ []
drop_all octets done all = grind (arith, common_steps)

-- All octets were read, or their side is over.
pub read_all : (old new : Follower) (side : Side) (octets : List ℕ) (done : ℕ)
    → (newer : Stretches) × AreOf side newer × (take done octets ≡ octets_read newer)
    × (new.lines.items ≡ old.lines.items ++ output_of newer) × FollowerReadsMore old new newer
    → new.client ≡ old.client → new.least ≡ old.least
    → (length octets ≤ done) ⊎ ((one_of side new).is_over ≡ true)
    → FollowerAdvances old new side octets old.lines.items new.lines.items
read_all old new side octets done (newer, of, taken, lines, reads) client least ended = record {
  newer = newer;
  after = drop done octets;
  of = of;
  joined = sym (take-append-drop done octets)
      ∙ ap (λ (first : List ℕ). first ++ drop done octets) taken;
  ended = by ended;
  written = lines;
  reads = reads;
  client = client;
  least = least;
}
  where
    by : (length octets ≤ done) ⊎ ((one_of side new).is_over ≡ true)
        → (drop done octets ≡ []) ⊎ ((one_of side new).is_over ≡ true)
    by (inl all) = inl (drop_all octets done all)
    by (inr over) = inr over
