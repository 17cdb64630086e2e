use Rattle.cargo_toml_bench.proofs.Cited.{List, MAX_ITEMS, None, SameRecorded, Some, [], admitted, ap, entries_at, first_target, held, is_optional, option_copied, option_map, parsed_entries, recorded_in, recorded_of, refl, subst, sym, value_at, ◌∙◌, ◌∷◌, ◌≡◌}
use Rattle.cargo_toml.specs.Recorded.{Entry}
use Rattle.cargo_toml_bench.proofs.pairs.is_optional_at.Goals as goal

-- where nothing is recorded of entries, there is no first
none_first : (es : List Entry) → SameRecorded None (recorded_of es) → None ≡ first_target es
none_first [] r = refl
none_first (e ∷ es) r = absurd r

pub returns-in_default-clause-answer : goal.returns-in_default-clause-answer
returns-in_default-clause-answer g c =
    let m = held c.args.manifest.now in
    let es : List Entry = entries_at (admitted MAX_ITEMS m.features) (parsed_entries MAX_ITEMS m) c.args.key.now in
    let missing : value_at c.in_ok-resolved.resolved.dependencies c.args.key.now ≡ None = sym c.get.ensures.value ∙ ap option_copied c.in_default.is in
    ap (option_map is_optional) (none_first es
    (subst (λ o. SameRecorded (option_map recorded_in o) (recorded_of es)) missing (c.in_ok-resolved.ensures.resolved.kept.dependencies c.args.key.now)))

pub returns-clause-answer : goal.returns-clause-answer
returns-clause-answer g c =
    let m = held c.args.manifest.now in
    let es : List Entry = entries_at (admitted MAX_ITEMS m.features) (parsed_entries MAX_ITEMS m) c.args.key.now in
    let here : value_at c.in_ok-resolved.resolved.dependencies c.args.key.now ≡ Some c.in-Some.dependency.now = sym c.get.ensures.value ∙ ap option_copied c.in-Some.is in
    ap Some c.optional.ensures
    ∙ ap (option_map is_optional) (c.dep.ensures.recorded es
    (subst (λ o. SameRecorded (option_map recorded_in o) (recorded_of es)) here (c.in_ok-resolved.ensures.resolved.kept.dependencies c.args.key.now)))
