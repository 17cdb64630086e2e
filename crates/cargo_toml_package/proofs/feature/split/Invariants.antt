use Rattle.std.proofs.Common.{map, string_bytes}
use Rattle.cargo_toml_package.proofs.Apart.{AreHalves}
use Rattle.cargo_toml_package.proofs.feature.split.Given as goal

abbrev pub invariant-loop-name : goal.invariant-loop-name
invariant-loop-name l = AreHalves (λ v. map string_bytes v.items) l.yielded l.lists.items l.details.items
