use Rattle.cargo_toml_features.proofs.Cited.{ap, bytes_eq-Decides, false≢true, get_or, get_or-map, get_or_default, is_below, sym, vertex_names, [], ◌∙◌}
use Rattle.cargo_toml_features.proofs.Merging.{no_text, none_left, other_left, same_left, same_taken}
use Rattle.cargo_toml_features.proofs.vertices.Merge.skip.Goals.{else-self-keys-via-then-self-keys+else-is_same, else-self-keys-via-else-self-keys}
use Rattle.cargo_toml_features.proofs.vertices.Merge.skip.Goals as goal

pub returns-then-is_same-clause-in_order : goal.returns-then-is_same-clause-in_order
returns-then-is_same-clause-in_order c =
    let m = c.args.self.now in
    let n = c.args.name.now in
    let k = get_or m.keys.now m.next no_text in
    same_left (vertex_names m.all.items) n m.keys.now m.next c.requires.below k c.if-self-keys.true (get_or_default m.keys.now m.next no_text k c.if-self-keys.true) c.requires.in_order
    ((bytes_eq-Decides k.now n).0 (sym c.is_same.ensures ∙ c.if-is_same.true))

pub returns-then-is_same-clause-taken : goal.returns-then-is_same-clause-taken
returns-then-is_same-clause-taken c =
    let m = c.args.self.now in
    let n = c.args.name.now in
    let k = get_or m.keys.now m.next no_text in
    same_taken (vertex_names m.all.items) n m.keys.now m.next c.requires.below k c.if-self-keys.true (get_or_default m.keys.now m.next no_text k c.if-self-keys.true) c.requires.in_order
    ((bytes_eq-Decides k.now n).0 (sym c.is_same.ensures ∙ c.if-is_same.true))

pub returns-else-self-keys-clause-in_order : goal.returns-else-self-keys-clause-in_order
returns-else-self-keys-clause-in_order c =
    let m = c.args.self.now in
    let n = c.args.name.now in
    let k = get_or m.keys.now m.next no_text in
    elim c.else-self-keys.branch [
      | else-self-keys-via-then-self-keys+else-is_same w ↦
          other_left (vertex_names m.all.items) n m.keys.now m.next c.requires.below k w.if-self-keys.true (get_or_default m.keys.now m.next no_text k w.if-self-keys.true) c.requires.in_order
          (ap (λ t. is_below t n) (sym (get_or-map (λ t. t.now) m.keys.now m.next no_text [] w.if-self-keys.true)) ∙ c.requires.bound w.if-self-keys.true)
          (λ same. false≢true (sym w.if-is_same.false ∙ w.is_same.ensures ∙ (bytes_eq-Decides k.now n).1 same))
      | else-self-keys-via-else-self-keys w ↦ none_left (vertex_names m.all.items) n m.keys.now m.next c.requires.below w.if-self-keys.false
    ]
