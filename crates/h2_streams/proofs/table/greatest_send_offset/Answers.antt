use Rattle.h2_streams.proofs.Names.{◌≡◌, ◌∷◌, None, Some, ap, sym, is_some, rules, w64, SFits}
use Rattle.h2_streams.proofs.Names.{to_z-of_z, active_at, greater_of, Kept, Option}
use Rattle.h2_numbers.specs.Tables.{all_of, with_newest}
use Rattle.h2_streams.specs.Table.{IsGreatestOffset}
use Rattle.h2_streams.proofs.NewestStreams.{greatest_with}
use Rattle.h2_streams.proofs.table.greatest_send_offset.Goals as goal

pub returns-in-Some : goal.returns-in-Some
returns-in-Some c =
    let table = c.args.active.now in
    let kept = c.in-Some.kept.now in
    let fits : SFits w64 c.greater_of.result = search rules in
    let offset_fits : SFits w64 kept.send_offset = search rules in
    let newest : Some kept ≡ table.newest = c.in-Some.ensures in
    let apart : active_at table.number table.older ≡ None =
    c.older.ensures.apart (ap is_some (sym newest)) in
    let before : IsGreatestOffset table.older c.greatest_of-greatest.result =
    rw (c.older.ensures.older) at c.greatest_of-greatest.ensures in
    let all : all_of table ≡ (table.number, kept) ∷ table.older =
    ap (λ (v : Option Kept). with_newest table.number v table.older) (sym newest) in
    let is : c.greater_of.result ≡ greater_of c.greatest_of-greatest.result kept.send_offset =
    rw (to_z-of_z w64 kept.send_offset offset_fits) at c.greater_of.ensures in
    rw (to_z-of_z w64 c.greater_of.result fits, is, all)
    (greatest_with table.number kept table.older c.greatest_of-greatest.result apart before)
