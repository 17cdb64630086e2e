use Rattle.std.proofs.Common.{◌≡◌, ◌∙◌, ◌<◌, [], ap, arith, length, map, rules, sym, take}
use Rattle.std.specs.Borrow.{Bor}
use Rattle.std.proofs.lemmas.List.{map_more}
use Rattle.cargo_toml.specs.Action.{Text}
use Rattle.cargo_toml_check.proofs.Latest.{map_more_by}
use Rattle.cargo_toml_check.specs.IndexFiles.{entry, marked}
use Rattle.cargo_toml_check.proofs.registry.yanking.are_marked.Goals as goal

pub loop-index-preserved : goal.loop-index-preserved
loop-index-preserved c =
    let i = c.loop-index.index in
    let old = c.args.old.now in
    let new = c.args.new.now in
    let in_new : i < length new = omega arith in
    let in_old : i < length old = omega arith in
    let none : Bor Text = record { ref_ptr = (0, 0); now = [] } in
    let mark = λ (t : Text). marked c.args.of.0.now c.args.of.1.now c.args.yanked (entry t) in
    ap (map entry) (map_more (λ t. t.now) new i none in_new)
    ∙ (map_more_by entry mark (map (λ t. t.now) (take i new)) (map (λ t. t.now) (take i old)) _ _ c.loop-index.invariant (c.in_ok-is_marked.ensures (search rules))
    ∙ ap (map mark) (sym (map_more (λ t. t.now) old i none in_old)))
