use Rattle.{std.proofs.Common.◌≡◌, std.proofs.Common.drop, cargo_toml_resolve.proofs.HashedKept.HasPut}
use Rattle.cargo_toml_resolve.proofs.hashing.hashed.Given as goal

abbrev pub invariant-loop-value : goal.invariant-loop-value
invariant-loop-value g l = record {
  rest : l.value-iterator.rest.items ≡ drop l.place l.fn.values.items;
  held : HasPut l.names l.fn.values.items l.place l.by_name;
}
