use Rattle.cargo_toml_package.specs.Workspaces.{workspace_meaning, workspace_reads}
use Rattle.cargo_toml_write.proofs.Writers.{alone, chain, ends, reread_workspace, tree_again, workspace_again, workspace_rows, workspace_way}
use Rattle.cargo_toml_write.proofs.write.package.WorkspaceToValue.to_value.Goals as goal

pub returns : goal.returns
returns g c =
    let way = g.Metadata.ToValue.way in
    let workspace = workspace_meaning g.Metadata.ToValue.meaning c.args.self.now in
    let written = ends (workspace_rows way) workspace c.finish.result c.new-writing.ensures.no_fault c.new-writing.ensures.no_key c.finish.ensures (search chain depth 80 fits 4000) in
    record {
      written = written;
      read_again = λ reads law told.
          tree_again (workspace_way way) workspace (workspace_reads reads) (reread_workspace workspace) c.finish.result written
          (workspace_again way g.Metadata.ToValue.meaning g.Metadata.ToValue.meaning reads law c.args.self.now told);
      memory = alone (workspace_way way) workspace _ written;
    }
