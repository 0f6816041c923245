-- Both sides, as octets come.
use Rattle.h2_follow.proofs.Names.{◌≡◌, ◌∙◌, ◌++◌, ◌∷◌, ◌⊎◌, ℕ, [], List, refl, sym, ap}
use Rattle.h2_follow.proofs.Names.{subst, false}
use Rattle.h2_follow.proofs.Names.{append-nil, inl, inr, true, Option, Some, None, Side}
use Rattle.h2_follow.proofs.Names.{Client, Server, OneSide, SideShows, OfSide, Piece, Result, Ok}
use Rattle.h2_follow.proofs.Names.{Err, OnOk, Appends, Node, marked_of, output_of, Follower}
use Rattle.h2_follow.proofs.Names.{EndsSide}
use Rattle.h2_follow.proofs.Names.{Status, Stretches, FollowerReads, FollowerShows, FollowerTakes}
use Rattle.h2_follow.proofs.Names.{KnowsClient, client_of, sided, side_of_node, ChoosesClient}
use Rattle.std.proofs.lemmas.List.{map-append}
use Rattle.std.proofs.KnownBytes.{Appends-kept, Appends-nil}
use Rattle.std.specs.Io.KnownBytes.{Keeps}
use Rattle.h2_follow.specs.Follower.{FollowerAdvances, one_of}
use Rattle.h2_follow.proofs.SideLemmas.{known_over}
use Rattle.h2_follow.specs.Follows.{FollowsPieces, status_of_both}
use Rattle.h2_follow.specs.InForce.{bound_of, first_bound}
use Rattle.h2_follow.specs.Stretches.{ArePieces, AreFollowed, SideIsOver, no_pieces, own_of}
use Rattle.h2_follow.specs.Stretches.{with_piece}

-- it is the client of the pieces with this one
client_next : (known : Option Node) (pieces : List Piece) (piece : Piece) (client : Node)
    → KnowsClient known pieces → ChoosesClient known piece client
    → client ≡ client_of (pieces ++ piece ∷ [])
client_next None [] piece client knows chooses = chooses
client_next None (first ∷ pieces) piece client knows chooses = absurd (cc)
client_next (Some node) [] piece client knows chooses = absurd (knows.0 refl)
client_next (Some node) (first ∷ pieces) piece client knows chooses = chooses ∙ knows.1

-- and the sides of those before it are by it
sided_next : (known : Option Node) (pieces : List Piece) (piece : Piece) (client : Node)
    → KnowsClient known pieces → ChoosesClient known piece client
    → sided (client_of pieces) pieces ≡ sided client pieces
sided_next known [] piece client knows chooses = refl
sided_next None (first ∷ pieces) piece client knows chooses = absurd (cc)
sided_next (Some node) (first ∷ pieces) piece client knows chooses =
    ap (λ (one : Node). sided one (first ∷ pieces)) (sym (chooses ∙ knows.1))

some_more : (pieces : List Piece) (piece : Piece) → pieces ++ piece ∷ [] ≡ [] → ⊥
some_more [] piece none = cc
some_more (first ∷ pieces) piece none = cc

-- the text has what was printed alone, since it was cleared
pub written_text : (side : Side) (before after : Option (List ℕ)) (cleared text printed : List ℕ)
    → cleared ≡ [] → text ≡ cleared ++ printed → Appends before after (marked_of (side, text))
    → Appends before after (marked_of (side, printed))
written_text side before after cleared text printed none is written =
    subst (λ (some : List ℕ). Appends before after (marked_of (side, some)))
    (is ∙ ap (λ (some : List ℕ). some ++ printed) none) written

-- a side that a fault has ended is over by what it has read
over_by : (one : OneSide) (side : Side) (own : Stretches) → one.is_over ≡ true → SideShows one side own
    → SideIsOver side own
over_by one side own is shows = (known_over one side own is shows).0

-- where all of a piece was read, or its side is over
piece_ended : (side : Side) (follower : Follower) (after : List ℕ) (log : Stretches)
    → (after ≡ []) ⊎ ((one_of side follower).is_over ≡ true) → FollowerReads follower log
    → (after ≡ []) ⊎ SideIsOver side (own_of side log)
piece_ended side follower after log (inl all) reads = inl all
piece_ended Client follower after log (inr over) reads =
    inr (over_by follower.client_side Client (own_of Client log) over reads.client)
piece_ended Server follower after log (inr over) reads =
    inr (over_by follower.server_side Server (own_of Server log) over reads.server)

-- a piece is taken
takes : (old mid new : Follower) (client : Node) (piece : Piece) (lines : List ℕ)
    → ChoosesClient old.client piece client → new.client ≡ Some client
    → ((log : Stretches) → FollowerReads old log → FollowerReads mid log) → new.least ≡ old.least
    → (advances : FollowerAdvances mid new (side_of_node client piece.0) piece.1 [] lines)
    → FollowerTakes old new (piece ∷ []) advances.newer
takes old mid new client piece lines chooses is same kept advances least pieces log shows =
    let before = sided_next old.client pieces piece client shows.knows chooses in
    let now = client_next old.client pieces piece client shows.knows chooses in
    let reads : FollowerReads new (advances.newer ++ log) =
    advances.reads log (same log shows.reads) in
    record {
      knows = subst (λ (one : Option Node). KnowsClient one (pieces ++ piece ∷ [])) (sym is)
          (some_more pieces piece, now);
      parts = with_piece _ _ (sided client pieces) (side_of_node client piece.0, piece.1)
          advances.newer log
          (ap (λ (one : Node). sided one (pieces ++ piece ∷ [])) (sym now)
          ∙ map-append (λ (one : Piece). (side_of_node client one.0, one.1)) pieces (piece ∷ []))
          refl (subst (λ (all : List OfSide). ArePieces all log) before shows.parts)
          (record {
            of = advances.of;
            after = advances.after;
            joined = advances.joined;
            ended = piece_ended (side_of_node client piece.0) new advances.after
                (advances.newer ++ log) advances.ended reads;
          });
      reads = reads;
      same = kept ∙ shows.same;
    }

-- what is written of a piece
pub take_told : {E : Type 0} (result : Result (Unit {0}) E) (old mid new : Follower)
    (client : Node) (piece : Piece) (side : Side) (octets : List ℕ)
    (before after : Option (List ℕ))
    → ChoosesClient old.client piece client
    → ((log : Stretches) → FollowerReads old log → FollowerReads mid log) → mid.client ≡ Some client
    → mid.least ≡ old.least → side ≡ side_of_node client piece.0 → octets ≡ piece.1
    → OnOk result ((lines : List ℕ) × Appends before after lines
    × FollowerAdvances mid new side octets [] lines)
    → OnOk result ((newer : Stretches) × Appends before after (output_of newer)
    × FollowerTakes old new (piece ∷ []) newer)
take_told (Err error) old mid new client piece side octets before after chooses same is kept side_is
    octets_are told = tt
take_told (Ok ok) old mid new client piece side octets before after chooses same is kept side_is
    octets_are told =
    let (lines, written, advances) = told in
    let known : FollowerAdvances mid new (side_of_node client piece.0) piece.1 [] lines =
    subst (λ (turn : Side). FollowerAdvances mid new turn piece.1 [] lines) side_is
    (subst (λ (all : List ℕ). FollowerAdvances mid new side all [] lines) octets_are advances) in (
      known.newer,
      subst (λ (text : List ℕ). Appends before after text) known.written written,
      takes old mid new client piece lines chooses (known.client ∙ is) same (known.least ∙ kept)
          known,
    )

-- before any octets have come
pub none_taken : (follower : Follower) (least : ℕ) → follower.client ≡ None
    → follower.is_client_noted ≡ false → follower.is_server_noted ≡ false
    → bound_of follower.client_bound ≡ first_bound → bound_of follower.server_bound ≡ first_bound
    → SideShows follower.client_side Client [] → SideShows follower.server_side Server []
    → follower.least ≡ least → FollowerShows follower least [] []
none_taken follower least none_yet no_client no_server one two client server same = record {
  knows = subst (λ (known : Option Node). KnowsClient known []) (sym none_yet) refl;
  parts = no_pieces [] [] refl refl;
  reads = record {
    client_may = one;
    server_may = two;
    client = client;
    server = server;
    client_said = no_client;
    server_said = no_server;
    is_log = tt;
  };
  same = same;
}

-- what is shown of a line: nothing where it gives no octets
pub none_shown : (follower : Follower) (known : Option (List ℕ))
    → (newer : Stretches) × Appends known known (output_of newer)
    × FollowerTakes follower follower [] newer
none_shown follower known = (
  [],
  Appends-nil known,
  λ least pieces log shows. subst (λ (all : List Piece). FollowerShows follower least all log)
      (sym (append-nil pieces)) shows,
)

-- the whole output, at the end of both sides' octets
pub followed : (follower : Follower) (least : ℕ) (pieces : List Piece) (log : Stretches)
    (client server status : Status) (one two : List ℕ)
    → FollowerShows follower least pieces log → status ≡ status_of_both client server
    → EndsSide follower.client_side client one → EndsSide follower.server_side server two
    → FollowsPieces least (sided (client_of pieces) pieces) status
    (output_of log ++ (marked_of (Client, one) ++ marked_of (Server, two)))
followed follower least pieces log client server status one two shows is client_ends
    server_ends = record {
      log = log;
      parts = shows.parts;
      is_log = subst (λ (some : ℕ). AreFollowed some log) shows.same shows.reads.is_log;
      client_last = one;
      server_last = two;
      client_status = client;
      server_status = server;
      client = client_ends Client (own_of Client log) shows.reads.client;
      server = server_ends Server (own_of Server log) shows.reads.server;
      all = refl;
      ended = is;
    }

-- the lines of a piece are written, which were none before it
pub show_told : {E : Type 0} (result : Result (Unit {0}) E) (old mid new : Follower) (side : Side)
    (octets : List ℕ) (before written after : Option (List ℕ))
    → ((log : Stretches) → FollowerReads old log → FollowerReads mid log) → mid.lines.items ≡ []
    → mid.client ≡ old.client → mid.least ≡ old.least
    → OnOk result (FollowerAdvances mid new side octets mid.lines.items new.lines.items)
    → Appends before written new.lines.items → Keeps written after
    → OnOk result ((lines : List ℕ) × Appends before after lines
    × FollowerAdvances old new side octets [] lines)
show_told (Err error) old mid new side octets before written after same cleared client least told
    appends keeps = tt
show_told (Ok ok) old mid new side octets before written after same cleared client least told
    appends keeps = (
      new.lines.items,
      Appends-kept before written after new.lines.items appends keeps,
      record {
        newer = told.newer;
        after = told.after;
        of = told.of;
        joined = told.joined;
        ended = told.ended;
        written = told.written ∙ ap (λ (text : List ℕ). text ++ output_of told.newer) cleared;
        reads = λ log reads. told.reads log (same log reads);
        client = told.client ∙ client;
        least = told.least ∙ least;
      },
    )
