-- Sizes of windows, written out.
use Rattle.h2_args.proofs.Names.{◌≡◌, [], codes, refl, Some, None}
use Rattle.h2_args.specs.Windows.{window_or, window_size}
use Rattle.h2_files.specs.Ranges.{number_of_digits}
use Rattle.h2_args.specs.Windows.{window_times}

-- rule: engines (own) The size of --window is a number of octets, with k or m for more
in_octets : window_size (codes "65535") ≡ Some 65535
unfolding window_size number_of_digits window_times
in_octets = refl

in_kilooctets : window_size (codes "64k") ≡ Some 65536
unfolding window_size number_of_digits window_times
in_kilooctets = refl

in_megaoctets : window_size (codes "4m") ≡ Some 4194304
unfolding window_size number_of_digits window_times
in_megaoctets = refl

greatest : window_size (codes "2147483647") ≡ Some 2147483647
unfolding window_size number_of_digits window_times
greatest = refl

one_more : window_size (codes "2147483648") ≡ None
unfolding window_size number_of_digits window_times
one_more = refl

too_many_megaoctets : window_size (codes "2048m") ≡ None
unfolding window_size number_of_digits window_times
too_many_megaoctets = refl

no_octets : window_size (codes "0k") ≡ None
unfolding window_size number_of_digits window_times
no_octets = refl

letter_alone : window_size (codes "k") ≡ None
unfolding window_size number_of_digits window_times
letter_alone = refl

capital_letter : window_size (codes "4M") ≡ None
unfolding window_size number_of_digits window_times
capital_letter = refl

two_letters : window_size (codes "4km") ≡ None
unfolding window_size number_of_digits window_times
two_letters = refl

sign_before : window_size (codes "+4") ≡ None
unfolding window_size number_of_digits window_times
sign_before = refl

nothing_written : window_size [] ≡ None
unfolding window_size number_of_digits window_times
nothing_written = refl

usual_one : window_or None 4194304 ≡ Some 4194304
usual_one = refl
