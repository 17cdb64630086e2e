use Rattle.cargo_toml_write.proofs.Cited.{among, publish_of, view-Boolean}
use Rattle.cargo_toml_write.proofs.Writers.{alone, publish_again, refl, texts_way, tree_again}
use Rattle.cargo_toml_write.proofs.write.plain.PublishToValue.to_value.Goals as goal

pub returns-in-Flag-clause-written : goal.returns-in-Flag-clause-written
returns-in-Flag-clause-written c = rw c.in-Flag.is (view-Boolean _)

pub returns-in-Registry : goal.returns-in-Registry
returns-in-Registry c = rw c.in-Registry.is (record {
  written = c.to_value.ensures;
  read_again = tree_again texts_way _ publish_of (among _) c.to_value.result c.to_value.ensures (publish_again.each (among _) tt);
  memory = alone texts_way _ _ c.to_value.ensures (texts_way.nothing refl _);
})
