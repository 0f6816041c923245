-- The fetch begins, and the connection is widened; or a request is refused.
use Rattle.std.proofs.Common.{◌≡◌, ◌∙◌, ℕ, ap, length, map, subst, sym, inl}
use Rattle.std.proofs.lemmas.List.{length-map}
use Rattle.h2_get.specs.Asking.{BeginsSeveral}
use Rattle.h2_message.specs.Values.{message_value}
use Rattle.h2_get.specs.Windows.{several_values, window_among}
use Rattle.h2_get.proofs.begin.begin_several.Goals as goal

pub returns-in-Err-clause-refused : goal.returns-in-Err-clause-refused
returns-in-Err-clause-refused c =
    let values = c.in-Ok.ensures.values in
    let share : c.in-Ok.config.initial_window
    ≡ window_among c.args.window (length c.args.messages.items) =
    values.1 ∙ (c.window_among-share.ensures
    ∙ ap (λ (n : ℕ). window_among c.args.window n) (c.len.ensures ∙ c.args.messages.ok.0)) in
    inl (rw (values.0, share, values.2, values.3) at c.in-Err.ensures.err)

pub returns-in-Ok-widen_several-clause-ok : goal.returns-in-Ok-widen_several-clause-ok
returns-in-Ok-widen_several-clause-ok c =
    let values = c.in-Ok.ensures.values in
    let share : c.in-Ok.config.initial_window
    ≡ window_among c.args.window (length c.args.messages.items) =
    values.1 ∙ (c.window_among-share.ensures
    ∙ ap (λ (n : ℕ). window_among c.args.window n) (c.len.ensures ∙ c.args.messages.ok.0)) in
    let made = c.in-Ok-request_all.begun in
    record {
      begun = made.fetch;
      begins = subst
          (λ (n : ℕ). BeginsSeveral (several_values c.args.window n)
          (map message_value c.args.messages.items) made.ids.items made.fetch)
          (sym (length-map c.args.messages.items message_value))
          (rw (values.0, share, values.2, values.3) at c.in-Ok-request_all.ensures.ok);
      widened = c.in-Ok-widen_several.ensures.ok;
    }
