use Rattle.cargo_toml_program.proofs.Cited.{Consumes, List, ap, drop, err_from_is_err_and, inl, inr, length, rules, string_bytes, subst, sym, ℕ, ◌∙◌, ◌≡◌}
use Rattle.cargo_toml_program.proofs.printing.print_features.Goals as goal

pub returns-in_err-lines-clause-refused : goal.returns-in_err-lines-clause-refused
returns-in_err-lines-clause-refused g c =
    let bytes = c.read_to_end.new.buf.items in
    let whole : drop (length c.new-bytes.result.items) bytes ≡ c.as_slice.result.now =
    ap (λ (xs : List ℕ). drop (length xs) bytes) c.new-bytes.ensures.items
    ∙ sym c.as_slice.ensures.value in
    let read = subst (Consumes _ _) whole c.in_ok-read_to_end.ensures.none_lost in
    let left = c.from_residual-in_err-lines in
    let p = err_from_is_err_and left.result left.ensures.1 in
    rw (p.1, p.2) (elim c.in_err-lines.ensures.refused [
      | inl memory ↦ inl memory
      | inr spelled ↦ inr (inr (c.as_slice.result.now, read, c.in_ok-read_to_end.ensures.end, spelled))
    ])

pub returns-clause-printed : goal.returns-clause-printed
returns-clause-printed g c = record {
  bytes = c.as_slice.result.now;
  text = string_bytes c.in_ok-lines.lines;
  read =
      let bytes = c.read_to_end.new.buf.items in
      let whole : drop (length c.new-bytes.result.items) bytes ≡ c.as_slice.result.now =
      ap (λ (xs : List ℕ). drop (length xs) bytes) c.new-bytes.ensures.items ∙ sym c.as_slice.ensures.value in
      subst (Consumes _ _) whole c.in_ok-read_to_end.ensures.none_lost;
  whole = c.in_ok-read_to_end.ensures.end;
  lines = c.in_ok-lines.ensures.printed;
  written = search rules;
}
