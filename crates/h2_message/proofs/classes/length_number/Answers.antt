use Rattle.h2_message.proofs.Names.{refl, sym, ap, ◌∙◌, get_or, arith, drop_all, all_ascii_digits}
use Rattle.h2_message.proofs.Names.{number_written}
use Rattle.h2_message.proofs.ClassLemmas.{digit_fits, none_empty, none_long, none_other, is_number}
use Rattle.h2_message.proofs.ClassLemmas.{no_length, some_length, number_from}
use Rattle.h2_message.proofs.classes.length_number.Goals as goal
use Rattle.h2_message.proofs.classes.length_number.Goals.{then-is_empty-via-then-is_empty}
use Rattle.h2_message.proofs.classes.length_number.Goals.{
  then-is_empty-via-else-is_empty+then-value-gt19,
}

pub returns-then-is_empty : goal.returns-then-is_empty
returns-then-is_empty c =
    let value = c.args.value.now in
    elim c.then-is_empty.branch [
      | then-is_empty-via-then-is_empty w ↦
          no_length value (none_empty value (sym c.is_empty.ensures ∙ w.if-is_empty.true))
      | then-is_empty-via-else-is_empty+then-value-gt19 w ↦
          no_length value (none_long value w.if-value-gt19.true)
    ]

pub loop-digit-init : goal.loop-digit-init
unfolding number_written
loop-digit-init c = (omega arith, refl, refl)

pub returns-then-not-is_ascii_digit : goal.returns-then-not-is_ascii_digit
returns-then-not-is_ascii_digit c =
    let value = c.args.value.now in
    let other = sym c.is_ascii_digit.ensures.value ∙ c.if-not-is_ascii_digit.true in
    no_length value (none_other value c.loop-digit.digit-index c.loop-digit-test.true other
    c.loop-digit.invariant.2)

pub overflow_mul-number : goal.overflow_mul-number
overflow_mul-number c =
    let i = c.loop-digit.digit-index in
    let digit = get_or c.args.value.now i 0 in
    let fits = digit_fits c.loop-digit.number i digit c.loop-digit.invariant.0 (omega arith)
    (c.type_inv.value i).fits in
    record { fits = omega (arith, fits) }

pub overflow_add-number : goal.overflow_add-number
overflow_add-number c =
    let i = c.loop-digit.digit-index in
    record {
      fits = digit_fits c.loop-digit.number i (get_or c.args.value.now i 0)
          c.loop-digit.invariant.0 (omega arith) (c.type_inv.value i).fits;
    }

pub returns : goal.returns
returns c =
    let value = c.args.value.now in
    let past = drop_all c.loop-digit.digit-index value c.loop-digit-test.false in
    let digits = sym c.loop-digit.invariant.2 ∙ ap all_ascii_digits past in
    some_length value
    (is_number value (sym c.is_empty.ensures ∙ c.if-is_empty.false) c.if-value-gt19.false digits)
    c.loop-digit.number (sym (ap (number_from c.loop-digit.number) past) ∙ c.loop-digit.invariant.1)
