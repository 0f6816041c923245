-- The words of frames with names, as they are written.
use Rattle.h2_show.proofs.Names.{◌≡◌, ℕ, ◌+◌, Bool, List, ◌++◌, length, codes, ap, sym, ◌∙◌, arith}
use Rattle.h2_show.proofs.Names.{append_assoc, Settings, GoAway, flag_word, frame_words}
use Rattle.std.proofs.Common.{decimal, ◌*◌}
use Rattle.std.proofs.lemmas.Fmt.{decimal_digit}
use Rattle.h2_show.specs.Named.{code_name}
use Rattle.h2_show.specs.StyledLines.{name_word, named_pairs, named_words}
use Rattle.h2_show.proofs.LinesLemmas.{one_word}

seven_words : (name space stream count first second third fourth between fifth sixth : List ℕ)
    → (name ++ space ++ stream ++ space ++ count) ++ first ++ second ++ third ++ fourth ++ between
    ++ fifth ++ sixth
    ≡ name ++ (space ++ (stream ++ (space ++ (count ++ (first ++ (second ++ (third ++ (fourth
    ++ (between ++ (fifth ++ sixth))))))))))
seven_words name space stream count first second third fourth between fifth sixth =
    simp append_assoc

pub named_goaway_words : (last code : ℕ) (debug : List ℕ)
    → codes "GOAWAY 0 " ++ (decimal (8 + length debug) ++ (codes " last=" ++ (decimal last
    ++ (codes " code=" ++ (decimal code ++ (name_word (code_name code) ++ (codes " debug="
    ++ decimal (length debug))))))))
    ≡ named_words (GoAway last code debug)
unfolding named_words
named_goaway_words last code debug =
    ap (λ (stream : List ℕ). codes "GOAWAY " ++ (stream ++ (codes " "
    ++ (decimal (8 + length debug) ++ (codes " last=" ++ (decimal last
    ++ (codes " code=" ++ (decimal code ++ (name_word (code_name code) ++ (codes " debug="
    ++ decimal (length debug)))))))))))
    (sym (decimal_digit 0 (omega arith)))
    ∙ sym (seven_words (codes "GOAWAY") (codes " ") (decimal 0) (decimal (8 + length debug))
    (codes " last=") (decimal last) (codes " code=") (decimal code) (name_word (code_name code))
    (codes " debug=") (decimal (length debug)))

pub named_settings_words : (ack : Bool) (pairs : List (ℕ × ℕ))
    → (codes "SETTINGS 0 " ++ (decimal (6 * length pairs) ++ flag_word ack (codes "ack")))
    ++ named_pairs pairs ≡ named_words (Settings ack pairs)
unfolding named_words
named_settings_words ack pairs =
    ap (λ (stream : List ℕ). (codes "SETTINGS " ++ (stream ++ (codes " "
    ++ (decimal (6 * length pairs) ++ flag_word ack (codes "ack"))))) ++ named_pairs pairs)
    (sym (decimal_digit 0 (omega arith)))
    ∙ sym (one_word (codes "SETTINGS") (codes " ") (decimal 0) (decimal (6 * length pairs))
    (flag_word ack (codes "ack")) (named_pairs pairs))
