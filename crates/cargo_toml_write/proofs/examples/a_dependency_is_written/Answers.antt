use Rattle.cargo_toml_write.proofs.Cited.{DetailMeaning, IsStrictlySortedBy, Items, Some, [], array, codes, item, known_rows, no_detail, no_items, no_members, refl, string, true, ◌∷◌}
use Rattle.cargo_toml_write.proofs.Rows.{all_written}
use Rattle.cargo_toml_write.proofs.examples.a_dependency_is_written.Goals as goal

pub returns : goal.returns
unfolding IsStrictlySortedBy
returns c =
    let std : Items = item (string (codes "std")) no_items in
    let detail : DetailMeaning = record no_detail { path = Some (codes "../log"); features = codes "std" ∷ []; optional = true } in
    (no_members, _, refl, (tt, tt), all_written (known_rows detail) no_members _ (Some _, refl, (Some (array std), (std, refl, (refl, tt)), (Some _, refl, refl))))
