use Rattle.std.proofs.Common.{None, refl}
use Rattle.cargo_toml_discovery.proofs.discovery.discover.Goals as goal

pub returns : goal.returns
returns c =
    rw (
      c.in_ok-library.ensures,
      c.in_ok-binaries.ensures,
      c.in_ok-list_of.ensures None refl,
      c.in_ok-list_of-2.ensures None refl,
      c.in_ok-list_of-3.ensures None refl,
      c.in_ok-build.ensures,
      c.in_ok-readme.ensures,
    ) refl
