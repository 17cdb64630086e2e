use Rattle.cargo_toml_lint.proofs.Cited.{◌++◌, ◌∙◌, ◌≡◌, ap, append-nil, flat_map, map, map_meaning, sym, table_of, target_meaning, target_tables, TargetMeaning, Text}
use Rattle.cargo_toml_lint.proofs.Adding.{left_none, pushed_three, target_of}
use Rattle.cargo_toml_lint.proofs.tables.tables_of.Goals as goal

pub returns : goal.returns
returns g c =
    let of = λ (t : Text × TargetMeaning). target_tables t.1 in
    let none = left_none _ _ _ _ c.next.ensures.steps of target_of c.in-None.is in
    let before : map table_of c.loop-target.tables.items ≡ flat_map of (map_meaning target_meaning c.args.manifest.now.target) =
    sym (append-nil _) ∙ ap (λ xs. map table_of c.loop-target.tables.items ++ xs) (sym none) ∙ c.loop-target.invariant in
    let three = pushed_three table_of c.loop-target.tables.items _ _ c.push-4.new.self.items _ _ _ c.in_ok-push-4.ensures.items c.in_ok-push-5.ensures.items c.in_ok-push-6.ensures.items in
    rw before at three
