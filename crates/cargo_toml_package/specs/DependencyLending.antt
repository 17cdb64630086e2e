-- What a dependency ends as once its detail was lent for writing.
use Rattle.std.specs.Prelude.{◌≡◌, Result, Some}
use Rattle.std.specs.Borrow.{Fml, LendsSoOk, MutBor}
use Rattle.cargo_toml_package.specs.declared.dependency.Dependency.{Dependency}
use Rattle.cargo_toml_package.specs.declared.dependency.DependencyDetail.{DependencyDetail}
use Rattle.cargo_toml_package.specs.contracts.dependency.Dependency.{the_row as dependency_row}
use Rattle.cargo_toml_package.specs.contracts.dependency.DependencyDetail.{
  the_row as detail_row,
}
use Rattle.cargo_toml_package.specs.DependencyAnswers.{detail_at}

-- a dependency ends detailed with what was last written, or as it was where nothing was lent
abbrev pub LendsDetail : {E : Type 0} → MutBor Dependency → Result (MutBor DependencyDetail) E → Fml
LendsDetail s r =
    LendsSoOk dependency_row detail_row s r (λ n w. detail_at n ≡ Some w) (λ n. n ≡ s.now)
