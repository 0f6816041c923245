use Rattle.hpack_text.proofs.Names.{◌≡◌, ◌^◌, ◌<◌, ◌≤◌, get_or, sym, subst, arith, bits_of, code}
use Rattle.hpack_text.specs.declared.huffman.codes.TheConstants.{VALUES}
use Rattle.hpack_text.proofs.TableLemmas.{tables_have_code}
use Rattle.hpack_text.proofs.huffman.codes.code_of.Goals as goal

pub returns-clause-bits : goal.returns-clause-bits
returns-clause-bits c =
    let octet = c.args.octet in
    subst (λ n. bits_of n (get_or VALUES octet 0) ≡ code octet) (sym c.from.ensures)
    (tables_have_code octet (omega arith)).bits

pub returns-clause-within : goal.returns-clause-within
returns-clause-within c =
    let octet = c.args.octet in
    subst (λ n. get_or VALUES octet 0 < 2 ^ n) (sym c.from.ensures)
    (tables_have_code octet (omega arith)).within

pub returns-clause-most : goal.returns-clause-most
returns-clause-most c =
    subst (λ n. n ≤ 30) (sym c.from.ensures) (tables_have_code c.args.octet (omega arith)).most
