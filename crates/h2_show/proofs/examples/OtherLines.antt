-- Lines of fields, of the preface, of faults and of ends, written out.
use Rattle.h2_show.proofs.Names.{◌≡◌, List, ℕ, [], ◌∷◌, ◌++◌, true, false, codes, refl, ap, nat_le}
use Rattle.h2_show.proofs.Names.{if◌then◌else◌, flat_map, Field, list_size, expected_preface}
use Rattle.h2_show.proofs.Names.{preface, field_line, listing_lines, fault_line, rest_line}
use Rattle.h2_show.proofs.Names.{unfinished_line, end_lines, preface_lines, preface_shown, rest_shown, listing_of}
use Rattle.h2_show.proofs.Names.{unfinished_shown, Some}
use Rattle.std.specs.Fmt.{digits}
use Rattle.hex.specs.Hex.{encode_with}
use Rattle.h2_show.specs.ShownLines.{listed, too_large}
use Rattle.h2_frame.specs.declared.code.Code.TheVariants.{FrameSizeError, EnhanceYourCalm}

plain_field : field_line (record { name = codes ":path"; value = codes "/"; sensitive = false })
    ≡ codes "  :path: /\n"
plain_field = refl

sensitive_field : field_line (record { name = codes "a"; value = []; sensitive = true })
    ≡ codes "  !a: \n"
sensitive_field = refl

-- octets that aren't printable, the backslash, and the first and last that are printable
-- rule: show (own) The line of a field has its mark, its name and its value
escaped_field : field_line (record {
  name = 0x00 ∷ 0x5c ∷ 0x7f ∷ 0xff ∷ [];
  value = 0x1f ∷ 0x20 ∷ 0x7e ∷ 0x80 ∷ [];
  sensitive = false;
}) ≡ codes "  \\x00\\x5c\\x7f\\xff: \\x1f ~\\x80\n"
unfolding encode_with
escaped_field = refl

two_fields : listing_lines (Some (listing_of (record { name = codes "a"; value = codes "b"; sensitive = false }
    ∷ record { name = codes "c"; value = codes "d"; sensitive = true } ∷ [])))
    ≡ codes "  a: b\n  !c: d\n"
two_fields = refl

no_fields : listing_lines (Some (listing_of [])) ≡ []
no_fields = refl

-- a list is shown to its limit, and not one above it
at_the_limit : (fields : List Field) → list_size fields ≡ 65536
    → listing_lines (Some (listing_of fields)) ≡ flat_map field_line fields
at_the_limit fields size =
    ap (λ (count : ℕ). listing_lines (Some (if nat_le count 65536 then listed fields
    else too_large))) size

-- rule: show (own) A list above 65,536 octets has one line, without fields
above_the_limit : (fields : List Field) → list_size fields ≡ 65537
    → listing_lines (Some (listing_of fields)) ≡ codes "  list too large\n"
above_the_limit fields size =
    ap (λ (count : ℕ). listing_lines (Some (if nat_le count 65536 then listed fields
    else too_large))) size

fault : fault_line FrameSizeError 48 ≡ codes "fault FRAME_SIZE_ERROR at 48\n"
unfolding digits
fault = refl

fault_of_a_block : fault_line EnhanceYourCalm 65598 ≡ codes "fault ENHANCE_YOUR_CALM at 65598\n"
unfolding digits
fault_of_a_block = refl

rest : rest_line 12 ≡ codes "rest 12\n"
unfolding digits
rest = refl

unfinished : unfinished_line ≡ codes "unfinished block\n"
unfinished = refl

ends : end_lines 0 false ≡ []
ends = refl

ends_in_a_frame_of_a_block : end_lines 3 true ≡ rest_shown 3 ∷ []
ends_in_a_frame_of_a_block = refl

ends_in_a_block : end_lines 0 true ≡ unfinished_shown ∷ []
ends_in_a_block = refl

whole_preface : preface_lines true (codes "PRI * HTTP/2.0\r\n\r\nSM\r\n\r\n" ++ 0 ∷ [])
    ≡ preface_shown ∷ []
unfolding expected_preface preface
whole_preface = refl

most_of_the_preface : preface_lines true (codes "PRI * HTTP/2.0\r\n\r\nSM\r\n\r") ≡ []
unfolding expected_preface preface
most_of_the_preface = refl

none_expected : preface_lines false (codes "PRI * HTTP/2.0\r\n\r\nSM\r\n\r\n") ≡ []
none_expected = refl
