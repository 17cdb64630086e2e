use Rattle.cargo_toml_manifest.proofs.complete.parts_from.Goals as goal

pub returns : goal.returns
returns g c = rw (c.as_ref.ensures.value, c.workspace_folder.ensures) at c.new_parts.ensures
