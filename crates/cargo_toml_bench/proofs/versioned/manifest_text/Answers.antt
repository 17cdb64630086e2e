use Rattle.cargo_toml_bench.proofs.Cited.{Data, Some, any_tree, ap, document_reads, free_way, manifest_meaning, manifest_reads, manifest_way, reread, subst, table, table_view, view, view-Table, without_floats, ◌∙◌, ◌≡◌}
use Rattle.cargo_toml_bench.proofs.versioned.manifest_text.Goals as goal

pub returns-in-Ok : goal.returns-in-Ok
returns-in-Ok c =
    let m = manifest_meaning view c.args.manifest.now in
    let seen : view c.in_ok-table.field-0 ≡ table (table_view c.in-Table.table) = ap view c.in-Table.is ∙ view-Table c.in-Table.table in
    λ told. record {
      tree = table_view c.in-Table.table;
      written = subst (λ (d : Data). (manifest_way free_way).trees m d) seen c.in_ok-table.ensures.written;
      again = λ shallow.
          ap (document_reads (manifest_reads any_tree)) (c.in-Ok.ensures.reads_back shallow)
          ∙ subst (λ (d : Data). without_floats (manifest_reads any_tree) d ≡ Some (reread m)) seen (c.in_ok-table.ensures.read_again told c.value_metadata.ensures.any);
    }
