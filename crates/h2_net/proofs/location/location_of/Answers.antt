-- What stands in the URI.
use Rattle.std.proofs.Common.{rules, ◌≡◌, ◌∙◌, ap, inr, sym, Some, string_bytes, option_copied}
use Rattle.http_uri.specs.Uri.{uri_authority}
use Rattle.h2_net.specs.Locations.{host_of, without_brackets}
use Rattle.h2_net.proofs.EmptyLists.{is_empty, is_some}
use Rattle.h2_net.proofs.location.location_of.Goals as goal

pub returns-then-is_empty-clause-err : goal.returns-then-is_empty-clause-err
returns-then-is_empty-clause-err c =
    let authority : uri_authority c.args.uri.now ≡ Some c.in_ok-authority.authority.now =
    sym c.authority.ensures ∙ ap option_copied c.in_ok-authority.ensures.ok_part in
    let host : c.without_brackets-host.result.now ≡ host_of c.in_ok-authority.authority.now =
    c.without_brackets-host.ensures ∙ ap without_brackets c.host.ensures.value in (
      search rules,
      inr (
        c.in_ok-authority.authority.now,
        (search rules, authority),
        sym host ∙ is_empty _ _ c.is_empty.ensures c.if-is_empty.true,
      ),
    )

pub returns-clause-ok : goal.returns-clause-ok
returns-clause-ok c =
    let authority : uri_authority c.args.uri.now ≡ Some c.in_ok-authority.authority.now =
    sym c.authority.ensures ∙ ap option_copied c.in_ok-authority.ensures.ok_part in
    let same : string_bytes c.in_ok-from_str-2.field-0 ≡ c.in_ok-authority.authority.now =
    c.in_ok-from_str-2.ensures.ok ∙ c.as_str-2.ensures.value in
    let host : c.without_brackets-host.result.now ≡ host_of c.in_ok-authority.authority.now =
    c.without_brackets-host.ensures ∙ ap without_brackets c.host.ensures.value in
    let copied = c.in_ok-from_str.ensures.ok in
    record {
      scheme = search rules;
      authority = authority ∙ ap Some (sym same);
      path = c.in_ok-path_of.ensures;
      host = rw same (copied ∙ host);
      some_host = λ empty. is_some _ _ c.is_empty.ensures c.if-is_empty.false (sym copied ∙ empty);
      port = rw same (rw c.in_ok-port.ensures.ok_part at c.port_of.ensures);
      no_user =
          rw same (rw c.as_str.ensures.value at rw c.as_bytes.ensures.value
          at rw c.contains.ensures.value at c.if-contains.false);
    }
