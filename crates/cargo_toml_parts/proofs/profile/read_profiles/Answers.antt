use Rattle.std.proofs.Common.{[], ap, codes, refl, subst}
use Rattle.toml.specs.View.{table_view}
use Rattle.toml.proofs.Views.{view-Table}
use Rattle.cargo_toml_parts.specs.Reads.{Fails, IsReading, MapRefuses, OthersRefuse, map_meaning, map_of, others_read}
use Rattle.cargo_toml_parts.proofs.Chain.{ends, kept}
use Rattle.cargo_toml_parts.proofs.Places.{begins, ends_left, held_in, takes_optional}
use Rattle.cargo_toml_parts.proofs.Taken.{rest_read, rest_refuses}
use Rattle.cargo_toml_parts.specs.Profiles.{profile_keys, profile_meaning, profile_reads, ProfileRefuses, profiles_of, ProfilesFaults}
use Rattle.cargo_toml_parts.proofs.profile.read_profiles.Goals as goal

-- each key in turn, and then what is left of the table
pub returns : goal.returns
returns c =
    let held = held_in _ _ c.default-whole.ensures in
    let ms = table_view c.args.table in
    let all = begins ms _ (profiles_of ms) (ProfilesFaults ms) c.new-reading.ensures in
    let release = takes_optional (codes "release") _ _ _ _ _ _ _ _ all refl (ap (λ p. p.release) held) c.take_optional.ensures.value c.take_optional.ensures.left in
    let dev = takes_optional (codes "dev") _ _ _ _ _ _ _ _ release refl (ap (λ p. p.dev) held) c.take_optional-2.ensures.value c.take_optional-2.ensures.left in
    let test = takes_optional (codes "test") _ _ _ _ _ _ _ _ dev refl (ap (λ p. p.test) held) c.take_optional-3.ensures.value c.take_optional-3.ensures.left in
    let bench = takes_optional (codes "bench") _ _ _ _ _ _ _ _ test refl (ap (λ p. p.bench) held) c.take_optional-4.ensures.value c.take_optional-4.ensures.left in
    let doc = takes_optional (codes "doc") _ _ _ _ _ _ _ _ bench refl (ap (λ p. p.doc) held) c.take_optional-5.ensures.value c.take_optional-5.ensures.left in
    let custom = subst (λ d. IsReading (map_meaning profile_meaning) (map_of profile_reads d) (MapRefuses (Fails profile_reads ProfileRefuses) d) c.read_owned-custom.result)
    (view-Table c.take_optional-5.new.rest) c.read_owned-custom.ensures.reads in
    ends _ _ _ _ _ _ c.ended.ensures (ends_left (others_read [] profile_reads) (OthersRefuse [] (Fails profile_reads ProfileRefuses)) _ _ _ _ _ doc
    (rest_read profile_keys profile_reads ms) (rest_refuses profile_keys (Fails profile_reads ProfileRefuses) ms) (kept _ _ _ _ _ _ _ custom c.keep.ensures) refl)
