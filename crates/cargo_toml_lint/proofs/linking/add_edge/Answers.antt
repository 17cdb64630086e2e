use Rattle.cargo_toml_lint.proofs.Cited.{◌↔◌, ◌⊎◌, among-either, among-first, among-second, arith, held_names, inl, inr}
use Rattle.cargo_toml_lint.proofs.Edges.{passes_at, passes_missing, passes_none}
use Rattle.cargo_toml_lint.proofs.linking.add_edge.Goals as goal

same : {A P : Type 0} → (¬ P) → A ↔ (A ⊎ P)
same never = (inl, elim [ inl a ↦ a | inr p ↦ absurd (never p) ])

pub returns-then-not-turns : goal.returns-then-not-turns
returns-then-not-turns c = λ b. same (passes_none c.args.names.now (held_names c.args.known.now).optional c.args.text.now c.read_action-action.result
    c.read_action-action.ensures.item b (rw (c.acts.ensures, c.contains.ensures) at c.if-not-turns.true))

pub returns-in_default : goal.returns-in_default
returns-in_default c = λ b. same (passes_missing c.args.names.now (held_names c.args.known.now).optional c.args.text.now c.read_action-action.result
    c.read_action-action.ensures.item b (c.place_of.ensures.missing c.in_default.is))

pub returns : goal.returns
returns c = λ b.
    let at = passes_at c.args.names.now (held_names c.args.known.now).optional c.args.text.now c.read_action-action.result
    c.read_action-action.ensures.item b (rw (c.acts.ensures, c.contains.ensures) at c.if-not-turns.false) c.requires c.in-Some.place c.in-Some.ensures.found in
    grind (arith, among-either, among-first, among-second, c.in_ok-push.ensures.items, at)
