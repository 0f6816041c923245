-- The settings of a peer, as values.
use Rattle.std.specs.Prelude.{ℕ, ◌==◌, true, if◌then◌else◌, Some, None}
use Rattle.h2_flow.specs.declared.settings.Settings.{Settings}

-- the first values (RFC 9113, section 6.5.2)
-- rule: 6.5.2 Each setting has its first value
abbrev pub first_settings : Settings
first_settings = record {
  header_table_size = 4096;
  enable_push = true;
  max_concurrent_streams = None;
  initial_window_size = 65535;
  max_frame_size = 16384;
  max_header_list_size = None;
}

-- the settings with the value of an identifier; others are ignored (section 6.5.2)
-- rule: 6.5.2 Settings of other identifiers are ignored
-- rule: 6.5.2 A value changes its own setting and no other; one at fault none
unfoldable pub with_value : Settings → ℕ × ℕ → Settings
with_value settings pair =
    if pair.0 == 1 then record settings { header_table_size = pair.1 }
    else if pair.0 == 2 then record settings { enable_push = pair.1 == 1 }
    else if pair.0 == 3 then record settings { max_concurrent_streams = Some pair.1 }
    else if pair.0 == 4 then record settings { initial_window_size = pair.1 }
    else if pair.0 == 5 then record settings { max_frame_size = pair.1 }
    else if pair.0 == 6 then record settings { max_header_list_size = Some pair.1 }
    else settings
