use Rattle.std.proofs.Common.{◌∙◌, ◌<◌, [], ap, arith, get_or, length, map, option_to_list, sym, take}
use Rattle.std.proofs.lemmas.List.{map_more}
use Rattle.std.specs.Option.{option_or}
use Rattle.cargo_toml.specs.Action.{Text}
use Rattle.cargo_toml_check.specs.IndexFiles.{latest, sum_in, sums_in}
use Rattle.cargo_toml_check.proofs.Latest.{latest-more}
use Rattle.cargo_toml_check.proofs.registry.sums.checksums_in.Goals as goal

pub loop-line-preserved : goal.loop-line-preserved
loop-line-preserved c = λ name.
    let lines = c.args.lines.now in
    let i = c.loop-line.line-index in
    let h : i < length lines = omega arith in
    let line : Text = (get_or lines i (record { ref_ptr = (0, 0); now = [] })).now in
    c.in_ok-add_sum.ensures name
    ∙ (ap (λ o. option_or (latest (option_to_list (sum_in line)) name) o) (c.loop-line.invariant name)
    ∙ (sym (latest-more sum_in (map (λ t. t.now) (take i lines)) line name)
    ∙ ap (λ ls. latest (sums_in ls) name) (sym (map_more (λ t. t.now) lines i (record { ref_ptr = (0, 0); now = [] }) h))))
