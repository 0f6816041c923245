-- The lists that an end was given, and accepted, are such as its encoder makes blocks of.
use Rattle.h2_laws_pair.proofs.Names.{◌≡◌, List, ◌∷◌, None, sym, subst, AllByRecursion, list_size}
use Rattle.h2_laws_pair.proofs.Names.{Role, Values, Act, Answer, Open, SendFields, max_list, Log}
use Rattle.h2_laws_pair.proofs.Names.{log_view, conditions, refusal_of, answer_of, read, with_sent}
use Rattle.h2_laws_pair.proofs.Names.{opened, called, IsLog, lists_accepted, none_holds}
use Rattle.h2_laws_pair.proofs.Names.{IsLogInvariant, kept_by_logs}
use Rattle.std.proofs.lemmas.Bool.{ltb-false}
use Rattle.h2_spec_log.specs.Acts.{IsTypedAct}
use Rattle.h2_laws_pair.proofs.TablesWritten.{IsEncodable}
use Rattle.h2_laws_pair.proofs.HeardCalls.{silent_lists}
use Rattle.h2_laws_log.proofs.PartsStay.{sent_calls}

-- Of calls the lists that were accepted are such.
abbrev pub AreEncodable : List (Act × Answer) → Type 0
AreEncodable calls = AllByRecursion IsEncodable (lists_accepted calls)

-- One that is accepted is given a list of octets that isn't too large, or none.
accepted_call : (log : Log) (act : Act) → IsTypedAct act → refusal_of (log_view log) act ≡ None
    → (calls : List (Act × Answer)) → AreEncodable calls
    → AreEncodable ((act, answer_of (log_view log) act) ∷ calls)
unfolding lists_accepted IsTypedAct conditions
accepted_call log (Open fields end) typed none calls are =
    let small = ltb-false max_list (list_size fields) (none_holds _ none).1.1.1.1.1.0 in
    (record { octets = typed; small = small }, are)
accepted_call log (SendFields id fields end) typed none calls are =
    let small = ltb-false max_list (list_size fields) (none_holds _ none).1.1.1.1.0 in
    (record { octets = typed.1; small = small }, are)
accepted_call log act typed none calls are = are

-- So they are in every log.
are_kept : (role : Role) (values : Values)
    → IsLogInvariant role values (λ log. AreEncodable log.calls)
unfolding opened with_sent lists_accepted
are_kept role values = record {
  opening = λ in_range. tt;
  used = λ log octets unparsed is. is;
  framed = λ log frames is. is;
  begun = λ log begun is. is;
  replied = λ log decoded item verdict replies is.
      subst AreEncodable (sym (sent_calls (read log decoded item) _)) is;
  reported = λ log event events may is. is;
  unreturned = λ log count is. is;
  returned = λ log returns is. is;
  failed = λ log code last names is. is;
  sent = λ log act accepted is.
      subst AreEncodable (sym (sent_calls (called log act (answer_of (log_view log) act)) _))
      (accepted_call log act accepted.typed accepted.none log.calls is);
  called = λ log act answer is_log none is.
      subst (AllByRecursion IsEncodable) (sym (silent_lists act answer log.calls none)) is;
  given = λ log more is. is;
}

pub lists_of_log : (role : Role) (values : Values) (log : Log) → IsLog role values log
    → AreEncodable log.calls
lists_of_log role values log is =
    kept_by_logs role values (λ log. AreEncodable log.calls) (are_kept role values) log is
