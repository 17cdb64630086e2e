-- What a profile holds, and which tables are profiles.
use Rattle.std.specs.Prelude.{◌⊎◌, ℕ, List, [], ◌∷◌, Bool, codes, Option}
use Rattle.std.specs.Prelude.{Some, option_map, option_and_then, string_bytes}
use Rattle.toml.specs.Data.{Data, Members, as_bool, as_str, as_table}
use Rattle.toml.specs.View.{view}
use Rattle.cargo_toml_parts.specs.declared.error.Error.{Error}
use Rattle.cargo_toml_parts.specs.declared.profile.Profile.{Profile}
use Rattle.cargo_toml_parts.specs.declared.profile.Profiles.{Profiles}
use Rattle.cargo_toml_parts.specs.declared.profile_settings.DebugSetting.{DebugSetting}
use Rattle.cargo_toml_parts.specs.declared.profile_settings.LtoSetting.{LtoSetting}
use Rattle.cargo_toml_parts.specs.declared.profile_settings.StripSetting.{StripSetting}
use Rattle.cargo_toml_parts.specs.Numbers.{u16_of}
use Rattle.cargo_toml_parts.specs.ProfileSettings.{debug_of, debug_fault, strip_of, strip_fault}
use Rattle.cargo_toml_parts.specs.ProfileSettings.{lto_of, lto_fault, SettingRefuses}
use Rattle.cargo_toml_parts.specs.Reads.{◌>>=◌, optional_at, text_at, map_at}
use Rattle.cargo_toml_parts.specs.Reads.{others_read, OthersRefuse, map_meaning, map_of}
use Rattle.cargo_toml_parts.specs.Reads.{MapRefuses, TableRefuses, Fails, FaultAt, WrongShape}
use Rattle.cargo_toml_parts.specs.Readings.{NoFault}

-- how Cargo compiles
pub record ProfileMeaning : Type 0 where
  pub opt_level : Option Data
  pub debug : Option DebugSetting
  pub split_debuginfo : Option (List ℕ)
  pub rpath : Option Bool
  pub lto : Option LtoSetting
  pub debug_assertions : Option Bool
  pub codegen_units : Option ℕ
  pub panic : Option (List ℕ)
  pub incremental : Option Bool
  pub overflow_checks : Option Bool
  pub strip : Option StripSetting
  pub «package» : List (List ℕ × Data)
  pub build_override : Option Data
  pub inherits : Option (List ℕ)

-- what a profile holds
abbrev pub profile_meaning : Profile → ProfileMeaning
profile_meaning p = record {
  opt_level = option_map view p.opt_level;
  debug = p.debug;
  split_debuginfo = option_map string_bytes p.split_debuginfo;
  rpath = p.rpath;
  lto = p.lto;
  debug_assertions = p.debug_assertions;
  codegen_units = p.codegen_units;
  panic = option_map string_bytes p.panic;
  incremental = p.incremental;
  overflow_checks = p.overflow_checks;
  strip = p.strip;
  «package» = map_meaning view p.package;
  build_override = option_map view p.build_override;
  inherits = option_map string_bytes p.inherits;
}

-- the profile of a table
abbrev pub profile_of : Members → Option ProfileMeaning
profile_of ms = do
  opt_level ← optional_at "opt-level" (λ d. Some d) ms
  debug ← optional_at "debug" debug_of ms
  split_debuginfo ← text_at "split-debuginfo" ms
  panic ← text_at "panic" ms
  inherits ← text_at "inherits" ms
  rpath ← optional_at "rpath" as_bool ms
  debug_assertions ← optional_at "debug-assertions" as_bool ms
  incremental ← optional_at "incremental" as_bool ms
  overflow_checks ← optional_at "overflow-checks" as_bool ms
  lto ← optional_at "lto" lto_of ms
  codegen_units ← optional_at "codegen-units" u16_of ms
  strip ← optional_at "strip" strip_of ms
  «package» ← map_at "package" (λ d. Some d) ms
  build_override ← optional_at "build-override" (λ d. Some d) ms
  Some (record {
    opt_level = opt_level;
    debug = debug;
    split_debuginfo = split_debuginfo;
    rpath = rpath;
    lto = lto;
    debug_assertions = debug_assertions;
    codegen_units = codegen_units;
    panic = panic;
    incremental = incremental;
    overflow_checks = overflow_checks;
    strip = strip;
    «package» = «package»;
    build_override = build_override;
    inherits = inherits;
  })

-- the faults of a profile: those of its keys
abbrev pub ProfileFaults : Members → Error → Type 0
ProfileFaults ms e =
    FaultAt "opt-level" (λ d. Some d) NoFault ms e
    ⊎ FaultAt "debug" debug_of (SettingRefuses debug_fault) ms e
    ⊎ FaultAt "split-debuginfo" as_str WrongShape ms e
    ⊎ FaultAt "panic" as_str WrongShape ms e
    ⊎ FaultAt "inherits" as_str WrongShape ms e
    ⊎ FaultAt "rpath" as_bool WrongShape ms e
    ⊎ FaultAt "debug-assertions" as_bool WrongShape ms e
    ⊎ FaultAt "incremental" as_bool WrongShape ms e
    ⊎ FaultAt "overflow-checks" as_bool WrongShape ms e
    ⊎ FaultAt "lto" lto_of (SettingRefuses lto_fault) ms e
    ⊎ FaultAt "codegen-units" u16_of WrongShape ms e
    ⊎ FaultAt "strip" strip_of (SettingRefuses strip_fault) ms e
    ⊎ FaultAt "package" (map_of (λ d. Some d)) (MapRefuses (Fails (λ d. Some d) NoFault)) ms e
    ⊎ FaultAt "build-override" (λ d. Some d) NoFault ms e

-- the profile of a tree
abbrev pub profile_reads : Data → Option ProfileMeaning
profile_reads d = option_and_then profile_of (as_table d)

-- what may be wrong with a tree that is to be a profile
abbrev pub ProfileRefuses : Data → Error → Type 0
ProfileRefuses d e = TableRefuses ProfileFaults (as_table d) e

-- the profiles that Cargo knows, and those of other names
pub record ProfilesMeaning : Type 0 where
  pub release : Option ProfileMeaning
  pub dev : Option ProfileMeaning
  pub test : Option ProfileMeaning
  pub bench : Option ProfileMeaning
  pub doc : Option ProfileMeaning
  pub custom : List (List ℕ × ProfileMeaning)

-- what all profiles hold
abbrev pub profiles_meaning : Profiles → ProfilesMeaning
profiles_meaning p = record {
  release = option_map profile_meaning p.release;
  dev = option_map profile_meaning p.dev;
  test = option_map profile_meaning p.test;
  bench = option_map profile_meaning p.bench;
  doc = option_map profile_meaning p.doc;
  custom = map_meaning profile_meaning p.custom;
}

-- the names of the profiles that Cargo knows
abbrev pub profile_keys : List (List ℕ)
profile_keys = codes "release" ∷ codes "dev" ∷ codes "test" ∷ codes "bench" ∷ codes "doc" ∷ []

-- the profiles of a table
abbrev pub profiles_of : Members → Option ProfilesMeaning
profiles_of ms = do
  release ← optional_at "release" profile_reads ms
  dev ← optional_at "dev" profile_reads ms
  test ← optional_at "test" profile_reads ms
  bench ← optional_at "bench" profile_reads ms
  doc ← optional_at "doc" profile_reads ms
  custom ← others_read profile_keys profile_reads ms
  Some (record {
    release = release;
    dev = dev;
    test = test;
    bench = bench;
    doc = doc;
    custom = custom;
  })

-- what may be wrong with a table of profiles
abbrev pub ProfilesFaults : Members → Error → Type 0
ProfilesFaults ms e =
    FaultAt "release" profile_reads ProfileRefuses ms e
    ⊎ FaultAt "dev" profile_reads ProfileRefuses ms e
    ⊎ FaultAt "test" profile_reads ProfileRefuses ms e
    ⊎ FaultAt "bench" profile_reads ProfileRefuses ms e
    ⊎ FaultAt "doc" profile_reads ProfileRefuses ms e
    ⊎ OthersRefuse profile_keys (Fails profile_reads ProfileRefuses) ms e
