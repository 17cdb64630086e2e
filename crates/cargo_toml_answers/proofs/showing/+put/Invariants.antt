use Rattle.std.proofs.Common.{drop, map, string_bytes}
use Rattle.toml.specs.View.{view}
use Rattle.cargo_toml_check.specs.Shown.{json_of}
use Rattle.cargo_toml_answers.proofs.Adding.{Leads, values_tokens}
use Rattle.cargo_toml_answers.specs.Adding.{rows_tokens}
use Rattle.cargo_toml_answers.proofs.showing.+put.Given as goal

abbrev pub invariant-put_array-items : goal.invariant-put_array-items
invariant-put_array-items l =
    Leads l.initial.out l.out (values_tokens (map (λ v. json_of (view v)) (drop l.item-index l.item-items)))
    (values_tokens (map (λ v. json_of (view v)) l.item-items))

abbrev pub invariant-put_table-members : goal.invariant-put_table-members
invariant-put_table-members l = record {
  next : (goal.iterator-put_table-members).can_next l.key-iterator;
  end : (goal.iterator-put_table-members).is_finite l.key-iterator;
  leads :
      Leads l.initial.out l.out (rows_tokens (map (λ e. (string_bytes e.0, json_of (view e.1))) l.key-iterator))
      (rows_tokens (map (λ e. (string_bytes e.0, json_of (view e.1))) l.tree.entries));
}
