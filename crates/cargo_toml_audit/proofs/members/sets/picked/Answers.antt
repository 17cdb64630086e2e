use Rattle.cargo_toml_audit.proofs.Cited.{[], ap, append_assoc, ap₂, beq, bytes_eq, contains_text, drop, if◌then◌else◌, is_in, map, picked, string_bytes, sym, take, ◌++◌, ◌+◌, ◌||◌, ◌∙◌, ◌∷◌}
use Rattle.cargo_toml_audit.proofs.Texts.{in_next, picked_next}
use Rattle.cargo_toml_audit.proofs.members.sets.picked.Goals as goal

pub loop-text-preserved : goal.loop-text-preserved
loop-text-preserved c =
    let xs = c.args.texts.now in
    let i = c.loop-text.text-index in
    let x = string_bytes c.text-item.result in
    let again = c.args.again in
    let all = map string_bytes c.loop-text.all.items in
    let before = map string_bytes (take i xs) in
    let is = c.as_str-text.ensures.value in
    let rest = picked again (map string_bytes (take (i + 1) xs)) (map string_bytes (drop (i + 1) xs)) in (
      λ t. c.in_ok-note.ensures t ∙ ap₂ (λ b k. b || bytes_eq k t) (c.loop-text.invariant.0 t) is
          ∙ sym (in_next string_bytes xs i c.text-item.result c.loop-text-test.true c.text-item.is t),
      ap (λ ts. ts ++ rest) (c.in_ok-push_if.ensures
          ∙ ap₂ (λ b k. all ++ (if beq b again then k ∷ [] else [])) (c.contains.ensures ∙ ap (contains_text c.loop-text.seen) is ∙ c.loop-text.invariant.0 x) is)
          ∙ append_assoc all (if beq (is_in before x) again then x ∷ [] else []) rest
          ∙ ap (λ ts. all ++ ts) (sym (picked_next string_bytes xs i c.text-item.result c.loop-text-test.true c.text-item.is again)) ∙ c.loop-text.invariant.1,
    )
