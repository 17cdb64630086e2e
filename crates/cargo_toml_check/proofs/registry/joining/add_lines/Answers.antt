use Rattle.std.proofs.Common.{◌≡◌, ◌++◌, ◌∙◌, ap, map, option_map, string_bytes}
use Rattle.std.proofs.Math.Path.{fun_ext}
use Rattle.std.specs.{BTreeMap.get_by_text, List.flat_map, Str.Lines.lines}
use Rattle.cargo_toml_check.specs.IndexFiles.{added, ended, latest, placed, versions}
use Rattle.cargo_toml_check.proofs.registry.joining.add_lines.Goals as goal

pub returns-clause-text : goal.returns-clause-text
returns-clause-text c =
    let name = c.args.name.now in
    let read = ap (map (λ l. l.now)) c.as_slice.ensures.value ∙ c.in_ok-lines.ensures in
    let same = fun_ext (λ v. c.in_ok-versions.ensures.last v ∙ ap (λ ls. latest (versions name ls) v) read) in
    c.in_ok-text.ensures ∙ ap (λ f. ended c.args.old.now ++ flat_map (added f) c.args.new.now) same

pub returns-clause-places : goal.returns-clause-places
returns-clause-places c =
    let name = c.args.name.now in
    let read = ap (map (λ l. l.now)) c.as_slice.ensures.value ∙ c.in_ok-lines.ensures in
    let same = fun_ext (λ v. c.in_ok-versions.ensures.last v ∙ ap (λ ls. latest (versions name ls) v) read) in
    c.in_ok-places.ensures ∙ ap (λ f. map (placed f) c.args.new.now) same
