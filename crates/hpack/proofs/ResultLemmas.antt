-- Results.
use Rattle.hpack.proofs.Names.{◌≡◌, false, Result, Ok, Err, OnOk}
use Rattle.std.specs.Result.{is_err}

-- What holds of each `Ok` holds where there is no error.
pub on_ok : {A E P : Type 0} (result : Result A E) → is_err result ≡ false → OnOk result P → P
on_ok (Ok value) none holds = holds
on_ok (Err error) none holds = (cc)
