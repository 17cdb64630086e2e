use Rattle.cargo_toml_audit.proofs.Cited.{ap, map, refl, refusal, string_bytes, unread}
use Rattle.cargo_toml_audit.proofs.Taking.{takes_found}
use Rattle.cargo_toml_audit.proofs.auditing.place.At.add_unread.Goals as goal

pub returns-clause-added : goal.returns-clause-added
returns-clause-added g c = record {
  content = unread c.args.fault;
  is = (c.in_ok-refuse.ensures.memory, c.requires);
  takes = takes_found (refusal c.args.self.now.place.now c.args.fault) c.args.audit.now c.refuse.new.findings c.in_ok-refuse.ensures.found;
  member = refl;
  needs = ap (map string_bytes) c.new.ensures.items;
}
