use Rattle.cargo_toml_audit.proofs.Cited.{arith, nat_tests}
use Rattle.cargo_toml_audit.proofs.Matched.{among_one, among_range}
use Rattle.cargo_toml_audit.proofs.members.patterns.+is_among.Goals as goal

pub returns-else-c-last : goal.returns-else-c-last
returns-else-c-last t c = grind (arith, nat_tests, among_range)

pub returns-else-first-c-2 : goal.returns-else-first-c-2
returns-else-first-c-2 t c = grind (arith, nat_tests, among_one)
