-- What the code's own types of `index` stand for.
use Rattle.std.specs.Prelude.{Option, Some, None, List, String, Vec, map, option_map, string_bytes}
use Rattle.std.specs.{BTreeMap.BTreeMap, Borrow.Bor, Option.option_copied}
use Rattle.std.specs.declared.alloc.Global.{Global}
use Rattle.toml.specs.View.{table_view}
use Rattle.cargo_toml.specs.{Action.Text, Reads.map_meaning}
use Rattle.cargo_toml_package.specs.Replacing.{entries_meaning}
use Rattle.cargo_toml_tools.specs.Indexed.{DependencyTable, Refusal, Wanted}
use Rattle.cargo_toml_tools.specs.declared.index.IndexError.TheVariants.{Memory, Refused}
use Rattle.cargo_toml_tools.specs.declared.index.{IndexError.IndexError, Options.Options}
use Rattle.cargo_toml_tools.specs.declared.index.{refusals.Fault.Fault, sections.Section.Section}

abbrev pub lists_meaning : BTreeMap (String Global) (Vec (String Global) Global)
    → List (Text × List Text)
lists_meaning fs = map_meaning (λ v. map string_bytes v.items) fs

abbrev pub table_of : Section → DependencyTable
table_of s = record {
  kind = s.kind;
  target = option_copied s.target;
  written = option_map (λ t. table_view t.now) s.written;
  other_name = option_copied s.other_name;
  entries = entries_meaning s.entries.now;
}

abbrev pub names_of : List (Bor Text × Bor Text) → List (Text × Text)
names_of names = map (λ n. (n.0.now, n.1.now)) names

abbrev pub wanted_of : Options → Wanted
wanted_of o = record {
  registry = o.registry.now;
  names = names_of o.names.now;
  checksum = option_copied o.checksum;
  folder = option_copied o.folder;
  force = o.force;
}

abbrev pub refused : Fault × Bor Text → Refusal
refused r = (r.0, r.1.now)

-- what an error tells
abbrev pub told : IndexError → Option Refusal
told (Refused fault subject) = Some (fault, string_bytes subject)
told Memory = None
