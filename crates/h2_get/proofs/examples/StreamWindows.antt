-- The window of each of several streams.
use Rattle.std.proofs.Common.{◌≡◌, refl}
use Rattle.h2_get.specs.Windows.{window_among}

-- rule (best): engines (own) A response that is waited for has its window, and no other
all_of_the_window : window_among 4194304 1 ≡ 4194304
all_of_the_window = refl

half_of_the_window : window_among 65535 2 ≡ 32767
half_of_the_window = refl

third_of_the_window : window_among 65535 3 ≡ 21845
third_of_the_window = refl

least_share : window_among 4194304 100 ≡ 41943
least_share = refl

more_streams_than_octets : window_among 99 100 ≡ 1
more_streams_than_octets = refl

no_streams : window_among 300 0 ≡ 300
no_streams = refl
