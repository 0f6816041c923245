-- Digits are UTF-8, and what is parsed is the number that they write.
use Rattle.std.proofs.Common.{◌≡◌, true, sym, ◌∙◌}
use Rattle.std.specs.Char.{is_ascii_digit}
use Rattle.std.specs.List.{list_all}
use Rattle.std.proofs.lemmas.Str.Parse.{parse_digits}
use Rattle.h2_files.proofs.DigitLemmas.{are_text, digits_are, no_digits, number_from}
use Rattle.h2_files.proofs.ResultLemmas.{reads_text, text_is}
use Rattle.h2_files.proofs.range.number_of_digits.Goals as goal

pub returns-then-not-are_digits : goal.returns-then-not-are_digits
returns-then-not-are_digits c =
    sym (no_digits c.args.digits.now (sym c.are_digits.ensures ∙ c.if-not-are_digits.true))

pub returns-in_err-text : goal.returns-in_err-text
returns-in_err-text c =
    let all : list_all is_ascii_digit c.args.digits.now ≡ true =
    sym c.are_digits.ensures ∙ c.if-not-are_digits.false in
    absurd (reads_text _ c.args.digits.now c.from_utf8.result c.from_utf8.ensures.cases
    (are_text _ all) (sym c.ok.ensures.value ∙ c.in_err-text.was))

pub returns : goal.returns
returns c =
    let all : list_all is_ascii_digit c.args.digits.now ≡ true =
    sym c.are_digits.ensures ∙ c.if-not-are_digits.false in
    let same : c.in_ok-text.text.now ≡ c.args.digits.now =
    text_is _ c.args.digits.now c.from_utf8.result c.in_ok-text.text c.from_utf8.ensures.cases
    (sym c.ok.ensures.value ∙ c.in_ok-text.was) in
    c.ok-2.ensures.value
    ∙ number_from c.args.digits.now c.parse.result all
    (parse_digits digits_are 64 c.args.digits.now c.parse.result
    (rw same at c.parse.ensures.value.0) all)
