use Rattle.cargo_toml_write.proofs.write.collections.InheritableToValue.to_value.Goals as goal

pub returns-in-Inherited : goal.returns-in-Inherited
returns-in-Inherited g c = rw c.in-Inherited.is c.inherited_value.ensures
