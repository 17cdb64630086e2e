use Rattle.cargo_toml_package.specs.Dependencies.{detailed, simple}
use Rattle.cargo_toml_write.proofs.ReadParts.{read_again_told, version_text}
use Rattle.cargo_toml_write.proofs.laws.read_dependencies_are_told.Goals as goal

pub returns : goal.returns
returns c = record {
  requirements = λ d r read. (read_again_told d).each (simple r) read;
  details = λ d x read. (read_again_told d).each (detailed x) read;
  versions = version_text;
}
