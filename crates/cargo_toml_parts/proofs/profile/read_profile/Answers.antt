use Rattle.std.proofs.Common.{ap, codes, option_map, refl}
use Rattle.toml.specs.View.{table_view}
use Rattle.cargo_toml_parts.proofs.Chain.{ends, same}
use Rattle.cargo_toml_parts.proofs.Places.{begins, held_in, takes, takes_optional, takes_last_optional}
use Rattle.cargo_toml_parts.specs.Profiles.{profile_of, ProfileFaults}
use Rattle.cargo_toml_parts.proofs.profile.read_profile.Goals as goal

pub returns : goal.returns
returns c =
    let held = held_in _ _ c.default-whole.ensures in
    let ms = table_view c.args.table in
    let all = begins ms _ (profile_of ms) (ProfileFaults ms) c.new-reading.ensures in
    let opt_level = takes_optional (codes "opt-level") _ _ _ _ _ _ _ _ all refl (ap (λ p. p.opt_level) held) c.take_optional.ensures.value c.take_optional.ensures.left in
    let debug = takes_optional (codes "debug") _ _ _ _ _ _ _ _ opt_level refl (ap (λ p. option_map (λ x. x) p.debug) held) (same _ _ _ _ _ c.take_optional-2.ensures.value) c.take_optional-2.ensures.left in
    let split_debuginfo = takes_optional (codes "split-debuginfo") _ _ _ _ _ _ _ _ debug refl (ap (λ p. p.split_debuginfo) held) c.take_optional-3.ensures.value c.take_optional-3.ensures.left in
    let panic = takes_optional (codes "panic") _ _ _ _ _ _ _ _ split_debuginfo refl (ap (λ p. p.panic) held) c.take_optional-4.ensures.value c.take_optional-4.ensures.left in
    let inherits = takes_optional (codes "inherits") _ _ _ _ _ _ _ _ panic refl (ap (λ p. p.inherits) held) c.take_optional-5.ensures.value c.take_optional-5.ensures.left in
    let rpath = takes_optional (codes "rpath") _ _ _ _ _ _ _ _ inherits refl (ap (λ p. option_map (λ x. x) p.rpath) held) (same _ _ _ _ _ c.take_optional-6.ensures.value) c.take_optional-6.ensures.left in
    let debug_assertions = takes_optional (codes "debug-assertions") _ _ _ _ _ _ _ _ rpath refl (ap (λ p. option_map (λ x. x) p.debug_assertions) held) (same _ _ _ _ _ c.take_optional-7.ensures.value) c.take_optional-7.ensures.left in
    let incremental = takes_optional (codes "incremental") _ _ _ _ _ _ _ _ debug_assertions refl (ap (λ p. option_map (λ x. x) p.incremental) held) (same _ _ _ _ _ c.take_optional-8.ensures.value) c.take_optional-8.ensures.left in
    let overflow_checks = takes_optional (codes "overflow-checks") _ _ _ _ _ _ _ _ incremental refl (ap (λ p. option_map (λ x. x) p.overflow_checks) held) (same _ _ _ _ _ c.take_optional-9.ensures.value) c.take_optional-9.ensures.left in
    let lto = takes_optional (codes "lto") _ _ _ _ _ _ _ _ overflow_checks refl (ap (λ p. option_map (λ x. x) p.lto) held) (same _ _ _ _ _ c.take_optional-10.ensures.value) c.take_optional-10.ensures.left in
    let codegen_units = takes_optional (codes "codegen-units") _ _ _ _ _ _ _ _ lto refl (ap (λ p. option_map (λ x. x) p.codegen_units) held) (same _ _ _ _ _ c.take_optional-11.ensures.value) c.take_optional-11.ensures.left in
    let strip = takes_optional (codes "strip") _ _ _ _ _ _ _ _ codegen_units refl (ap (λ p. option_map (λ x. x) p.strip) held) (same _ _ _ _ _ c.take_optional-12.ensures.value) c.take_optional-12.ensures.left in
    let «package» = takes (codes "package") _ _ _ _ _ _ _ _ _ strip refl (ap (λ p. p.package) held) c.take.ensures.value c.take.ensures.left in
    ends _ _ _ _ _ _ c.ended.ensures (takes_last_optional (codes "build-override") _ _ _ _ _ _ _ «package» refl (ap (λ p. p.build_override) held) c.take_optional-13.ensures.value refl)
