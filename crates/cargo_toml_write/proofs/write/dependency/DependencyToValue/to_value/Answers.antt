use Rattle.cargo_toml_write.proofs.Writers.{dependency_again, dependency_of, detail_meaning, detail_way, detailed, inherited, inherited_way, requirement_way, simple, tree_again}
use Rattle.cargo_toml_write.proofs.write.dependency.DependencyToValue.to_value.Goals as goal

pub returns-in-Simple-clause-written : goal.returns-in-Simple-clause-written
returns-in-Simple-clause-written c = rw c.in-Simple.is c.to_value.ensures.written

pub returns-in-Simple-clause-read_again : goal.returns-in-Simple-clause-read_again
returns-in-Simple-clause-read_again c = rw c.in-Simple.is (λ told.
    tree_again requirement_way _ dependency_of _ c.to_value.result c.to_value.ensures.written (dependency_again.each (simple _) told))

pub returns-in-Inherited-clause-written : goal.returns-in-Inherited-clause-written
returns-in-Inherited-clause-written c = rw c.in-Inherited.is c.to_value-in-Inherited.ensures.written

pub returns-in-Inherited-clause-read_again : goal.returns-in-Inherited-clause-read_again
returns-in-Inherited-clause-read_again c = rw c.in-Inherited.is (λ told.
    tree_again inherited_way _ dependency_of _ c.to_value-in-Inherited.result c.to_value-in-Inherited.ensures.written (dependency_again.each (inherited _) told))

pub returns-in-Detailed-clause-written : goal.returns-in-Detailed-clause-written
returns-in-Detailed-clause-written c = rw (c.in-Detailed.is, ← c.deref.ensures) c.to_value-in-Detailed.ensures.written

pub returns-in-Detailed-clause-read_again : goal.returns-in-Detailed-clause-read_again
returns-in-Detailed-clause-read_again c = rw (c.in-Detailed.is, ← c.deref.ensures) (λ told.
    let x = detail_meaning c.deref.result.now in
    tree_again detail_way x dependency_of (detailed x) c.to_value-in-Detailed.result c.to_value-in-Detailed.ensures.written (dependency_again.each (detailed x) told))

pub returns-in-Detailed-clause-memory : goal.returns-in-Detailed-clause-memory
returns-in-Detailed-clause-memory c = rw (c.in-Detailed.is, ← c.deref.ensures) c.to_value-in-Detailed.ensures.memory
