use Rattle.cargo_toml_graph.specs.Reach.{Among}
use Rattle.cargo_toml_resolve.{specs.Numbering.Extends, specs.Numbering.HasNames, specs.Texts.texts_now, proofs.InOrder.seen}
use Rattle.cargo_toml_resolve.proofs.numbering.name_row.Given as goal

abbrev pub invariant-loop-name : goal.invariant-loop-name
invariant-loop-name l = record {
  extends : Extends l.count (texts_now l.initial.texts.items) (texts_now l.texts.items);
  names : HasNames l.count (texts_now l.texts.items) (Among (seen l.yielded)) l.row.items;
}
