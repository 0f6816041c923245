-- What holds of the commands.
use Rattle.h2_args.proofs.Names.{◌≡◌, ◌<◌, refl, arith, codes, true, ℕ, slice_index_or, bytes_eq}
use Rattle.h2_args.proofs.Names.{Rule, follow_app, get_app, host_app, loop_app, number_option_rule}
use Rattle.h2_args.proofs.Names.{number_rule}
use Rattle.h2_args.proofs.Names.{replay_app, required_rule, serve_app, show_app}
use Rattle.std.proofs.Common.{lit<, zero, suc}
use Rattle.h2_args.specs.Commands.{ShowNames, SideNames}
use Rattle.h2_args.proofs.RequiredLemmas.{IsAlone, IsNamedAt, IsRequiredAt}

pub show_is_alone : (names : ShowNames) → IsAlone (show_app names)
show_is_alone names = record { ready = refl; leaves = refl; free = refl; negates = refl }

-- the third argument of `show` alone is its limit of payloads
only_limit : (names : ShowNames) (j : ℕ) (d : Rule) → j < 11
    → bytes_eq (slice_index_or (show_app names).top.rules j d).id (codes "max-frame") ≡ true → j ≡ 2
only_limit names zero d lt same = cc
only_limit names (suc zero) d lt same = cc
only_limit names (suc (suc zero)) d lt same = refl
only_limit names (suc (suc (suc zero))) d lt same = cc
only_limit names (suc (suc (suc (suc zero)))) d lt same = cc
only_limit names (suc (suc (suc (suc (suc zero))))) d lt same = cc
only_limit names (suc (suc (suc (suc (suc (suc zero)))))) d lt same = cc
only_limit names (suc (suc (suc (suc (suc (suc (suc zero))))))) d lt same = cc
only_limit names (suc (suc (suc (suc (suc (suc (suc (suc zero)))))))) d lt same = cc
only_limit names (suc (suc (suc (suc (suc (suc (suc (suc (suc zero))))))))) d lt same = cc
only_limit names (suc (suc (suc (suc (suc (suc (suc (suc (suc (suc zero)))))))))) d lt same = cc
only_limit names (suc (suc (suc (suc (suc (suc (suc (suc (suc (suc (suc j))))))))))) d lt same =
    absurd (omega arith)

pub show_names_limit : (names : ShowNames)
    → IsNamedAt (show_app names) 2 (number_option_rule (codes "max-frame") 16384 1048576)
show_names_limit names = record {
  inside = lit< tt;
  at = λ d. refl;
  unique = only_limit names;
  named = refl;
  own = refl;
}

pub follow_is_alone : IsAlone follow_app
follow_is_alone = record { ready = refl; leaves = refl; free = refl; negates = refl }

-- the second argument of `show --follow` alone is its limit of payloads
only_follow_limit : (j : ℕ) (d : Rule) → j < 3
    → bytes_eq (slice_index_or follow_app.top.rules j d).id (codes "max-frame") ≡ true → j ≡ 1
only_follow_limit zero d lt same = cc
only_follow_limit (suc zero) d lt same = refl
only_follow_limit (suc (suc zero)) d lt same = cc
only_follow_limit (suc (suc (suc j))) d lt same = absurd (omega arith)

pub follow_names_limit :
    IsNamedAt follow_app 1 (number_option_rule (codes "max-frame") 16384 1048576)
follow_names_limit = record {
  inside = lit< tt;
  at = λ d. refl;
  unique = only_follow_limit;
  named = refl;
  own = refl;
}

pub replay_is_alone : (names : SideNames) → IsAlone (replay_app names)
replay_is_alone names = record { ready = refl; leaves = refl; free = refl; negates = refl }

pub get_is_alone : IsAlone get_app
get_is_alone = record { ready = refl; leaves = refl; free = refl; negates = refl }

-- the first argument of `get` alone is its URL
url_at : (j : ℕ) (d : Rule) → j < 13
    → bytes_eq (slice_index_or get_app.top.rules j d).id (codes "URL") ≡ true → j ≡ 0
url_at zero d lt same = refl
url_at (suc zero) d lt same = cc
url_at (suc (suc zero)) d lt same = cc
url_at (suc (suc (suc zero))) d lt same = cc
url_at (suc (suc (suc (suc zero)))) d lt same = cc
url_at (suc (suc (suc (suc (suc zero))))) d lt same = cc
url_at (suc (suc (suc (suc (suc (suc zero)))))) d lt same = cc
url_at (suc (suc (suc (suc (suc (suc (suc zero))))))) d lt same = cc
url_at (suc (suc (suc (suc (suc (suc (suc (suc zero)))))))) d lt same = cc
url_at (suc (suc (suc (suc (suc (suc (suc (suc (suc zero))))))))) d lt same = cc
url_at (suc (suc (suc (suc (suc (suc (suc (suc (suc (suc zero)))))))))) d lt same = cc
url_at (suc (suc (suc (suc (suc (suc (suc (suc (suc (suc (suc zero))))))))))) d lt same = cc
url_at (suc (suc (suc (suc (suc (suc (suc (suc (suc (suc (suc (suc zero)))))))))))) d lt same = cc
url_at (suc (suc (suc (suc (suc (suc (suc (suc (suc (suc (suc (suc (suc j))))))))))))) d lt same =
    absurd (omega arith)

-- the seventh argument of `get` alone is its port
port_at : (j : ℕ) (d : Rule) → j < 13
    → bytes_eq (slice_index_or get_app.top.rules j d).id (codes "port") ≡ true → j ≡ 6
port_at zero d lt same = cc
port_at (suc zero) d lt same = cc
port_at (suc (suc zero)) d lt same = cc
port_at (suc (suc (suc zero))) d lt same = cc
port_at (suc (suc (suc (suc zero)))) d lt same = cc
port_at (suc (suc (suc (suc (suc zero))))) d lt same = cc
port_at (suc (suc (suc (suc (suc (suc zero)))))) d lt same = refl
port_at (suc (suc (suc (suc (suc (suc (suc zero))))))) d lt same = cc
port_at (suc (suc (suc (suc (suc (suc (suc (suc zero)))))))) d lt same = cc
port_at (suc (suc (suc (suc (suc (suc (suc (suc (suc zero))))))))) d lt same = cc
port_at (suc (suc (suc (suc (suc (suc (suc (suc (suc (suc zero)))))))))) d lt same = cc
port_at (suc (suc (suc (suc (suc (suc (suc (suc (suc (suc (suc zero))))))))))) d lt same = cc
port_at (suc (suc (suc (suc (suc (suc (suc (suc (suc (suc (suc (suc zero)))))))))))) d lt same = cc
port_at (suc (suc (suc (suc (suc (suc (suc (suc (suc (suc (suc (suc (suc j))))))))))))) d lt same =
    absurd (omega arith)

-- the tenth argument of `get` alone is its time-out
time_at : (j : ℕ) (d : Rule) → j < 13
    → bytes_eq (slice_index_or get_app.top.rules j d).id (codes "timeout") ≡ true → j ≡ 9
time_at zero d lt same = cc
time_at (suc zero) d lt same = cc
time_at (suc (suc zero)) d lt same = cc
time_at (suc (suc (suc zero))) d lt same = cc
time_at (suc (suc (suc (suc zero)))) d lt same = cc
time_at (suc (suc (suc (suc (suc zero))))) d lt same = cc
time_at (suc (suc (suc (suc (suc (suc zero)))))) d lt same = cc
time_at (suc (suc (suc (suc (suc (suc (suc zero))))))) d lt same = cc
time_at (suc (suc (suc (suc (suc (suc (suc (suc zero)))))))) d lt same = cc
time_at (suc (suc (suc (suc (suc (suc (suc (suc (suc zero))))))))) d lt same = refl
time_at (suc (suc (suc (suc (suc (suc (suc (suc (suc (suc zero)))))))))) d lt same = cc
time_at (suc (suc (suc (suc (suc (suc (suc (suc (suc (suc (suc zero))))))))))) d lt same = cc
time_at (suc (suc (suc (suc (suc (suc (suc (suc (suc (suc (suc (suc zero)))))))))))) d lt same = cc
time_at (suc (suc (suc (suc (suc (suc (suc (suc (suc (suc (suc (suc (suc j))))))))))))) d lt same =
    absurd (omega arith)

pub get_wants_url : IsRequiredAt get_app 0 (required_rule (codes "URL"))
get_wants_url = record {
  inside = lit< tt;
  at = λ d. refl;
  required = refl;
  action = refl;
  range = refl;
  simple = refl;
  unique = url_at;
  named = refl;
  own = refl;
}

pub get_names_port : IsNamedAt get_app 6 (number_option_rule (codes "port") 1 65535)
get_names_port = record {
  inside = lit< tt;
  at = λ d. refl;
  unique = port_at;
  named = refl;
  own = refl;
}

pub get_names_timeout : IsNamedAt get_app 9 (number_option_rule (codes "timeout") 1 65535)
get_names_timeout = record {
  inside = lit< tt;
  at = λ d. refl;
  unique = time_at;
  named = refl;
  own = refl;
}

pub serve_is_alone : IsAlone serve_app
serve_is_alone = record { ready = refl; leaves = refl; free = refl; negates = refl }

-- the first argument of `serve` alone is its port
only_port : (j : ℕ) (d : Rule) → j < 2
    → bytes_eq (slice_index_or serve_app.top.rules j d).id (codes "PORT") ≡ true → j ≡ 0
only_port zero d lt same = refl
only_port (suc zero) d lt same = cc
only_port (suc (suc j)) d lt same = absurd (omega arith)

-- the second argument of `serve` alone is its count
only_count : (j : ℕ) (d : Rule) → j < 2
    → bytes_eq (slice_index_or serve_app.top.rules j d).id (codes "COUNT") ≡ true → j ≡ 1
only_count zero d lt same = cc
only_count (suc zero) d lt same = refl
only_count (suc (suc j)) d lt same = absurd (omega arith)

pub serve_wants_port : IsRequiredAt serve_app 0 (number_rule (codes "PORT") 1 65535)
serve_wants_port = record {
  inside = lit< tt;
  at = λ d. refl;
  required = refl;
  action = refl;
  range = refl;
  simple = refl;
  unique = only_port;
  named = refl;
  own = refl;
}

pub serve_wants_count : IsRequiredAt serve_app 1 (number_rule (codes "COUNT") 1 65535)
serve_wants_count = record {
  inside = lit< tt;
  at = λ d. refl;
  required = refl;
  action = refl;
  range = refl;
  simple = refl;
  unique = only_count;
  named = refl;
  own = refl;
}

pub loop_is_alone : IsAlone loop_app
loop_is_alone = record { ready = refl; leaves = refl; free = refl; negates = refl }

-- the first argument of `loop` alone is its number of octets
only_octets : (j : ℕ) (d : Rule) → j < 2
    → bytes_eq (slice_index_or loop_app.top.rules j d).id (codes "N") ≡ true → j ≡ 0
only_octets zero d lt same = refl
only_octets (suc zero) d lt same = cc
only_octets (suc (suc j)) d lt same = absurd (omega arith)

pub loop_wants_number : IsRequiredAt loop_app 0 (number_rule (codes "N") 0 1048576)
loop_wants_number = record {
  inside = lit< tt;
  at = λ d. refl;
  required = refl;
  action = refl;
  range = refl;
  simple = refl;
  unique = only_octets;
  named = refl;
  own = refl;
}

pub host_is_alone : IsAlone host_app
host_is_alone = record { ready = refl; leaves = refl; free = refl; negates = refl }

-- the first argument of `host` alone is its port
only_host_port : (j : ℕ) (d : Rule) → j < 8
    → bytes_eq (slice_index_or host_app.top.rules j d).id (codes "PORT") ≡ true → j ≡ 0
only_host_port zero d lt same = refl
only_host_port (suc zero) d lt same = cc
only_host_port (suc (suc zero)) d lt same = cc
only_host_port (suc (suc (suc zero))) d lt same = cc
only_host_port (suc (suc (suc (suc zero)))) d lt same = cc
only_host_port (suc (suc (suc (suc (suc zero))))) d lt same = cc
only_host_port (suc (suc (suc (suc (suc (suc zero)))))) d lt same = cc
only_host_port (suc (suc (suc (suc (suc (suc (suc zero))))))) d lt same = cc
only_host_port (suc (suc (suc (suc (suc (suc (suc (suc j)))))))) d lt same = absurd (omega arith)

-- the fourth alone is the number of its connections
only_connections : (j : ℕ) (d : Rule) → j < 8
    → bytes_eq (slice_index_or host_app.top.rules j d).id (codes "connections") ≡ true → j ≡ 3
only_connections zero d lt same = cc
only_connections (suc zero) d lt same = cc
only_connections (suc (suc zero)) d lt same = cc
only_connections (suc (suc (suc zero))) d lt same = refl
only_connections (suc (suc (suc (suc zero)))) d lt same = cc
only_connections (suc (suc (suc (suc (suc zero))))) d lt same = cc
only_connections (suc (suc (suc (suc (suc (suc zero)))))) d lt same = cc
only_connections (suc (suc (suc (suc (suc (suc (suc zero))))))) d lt same = cc
only_connections (suc (suc (suc (suc (suc (suc (suc (suc j)))))))) d lt same = absurd (omega arith)

-- the fifth alone is the time of idle ones
only_idle : (j : ℕ) (d : Rule) → j < 8
    → bytes_eq (slice_index_or host_app.top.rules j d).id (codes "idle") ≡ true → j ≡ 4
only_idle zero d lt same = cc
only_idle (suc zero) d lt same = cc
only_idle (suc (suc zero)) d lt same = cc
only_idle (suc (suc (suc zero))) d lt same = cc
only_idle (suc (suc (suc (suc zero)))) d lt same = refl
only_idle (suc (suc (suc (suc (suc zero))))) d lt same = cc
only_idle (suc (suc (suc (suc (suc (suc zero)))))) d lt same = cc
only_idle (suc (suc (suc (suc (suc (suc (suc zero))))))) d lt same = cc
only_idle (suc (suc (suc (suc (suc (suc (suc (suc j)))))))) d lt same = absurd (omega arith)

pub host_wants_port : IsRequiredAt host_app 0 (number_rule (codes "PORT") 1 65535)
host_wants_port = record {
  inside = lit< tt;
  at = λ d. refl;
  required = refl;
  action = refl;
  range = refl;
  simple = refl;
  unique = only_host_port;
  named = refl;
  own = refl;
}

pub host_names_connections :
    IsNamedAt host_app 3 (number_option_rule (codes "connections") 1 1048576)
host_names_connections = record {
  inside = lit< tt;
  at = λ d. refl;
  unique = only_connections;
  named = refl;
  own = refl;
}

pub host_names_idle : IsNamedAt host_app 4 (number_option_rule (codes "idle") 0 86400)
host_names_idle = record {
  inside = lit< tt;
  at = λ d. refl;
  unique = only_idle;
  named = refl;
  own = refl;
}
