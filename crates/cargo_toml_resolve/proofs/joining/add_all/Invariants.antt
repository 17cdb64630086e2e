use Rattle.cargo_toml_resolve.proofs.Cited.{Text, is_text_in, map, set_has, ◌||◌, ◌≡◌}
use Rattle.cargo_toml_resolve.proofs.joining.add_all.Given as goal

abbrev pub invariant-loop-text : goal.invariant-loop-text
invariant-loop-text l = (x : Text) → set_has l.texts x ≡ (set_has l.initial.texts x || is_text_in (map (λ k. k.now) l.yielded) x)
