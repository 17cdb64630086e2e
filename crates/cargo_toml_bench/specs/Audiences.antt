-- Which trees say who may rely on a package, and how that is written.
use Rattle.std.specs.Prelude.{◌≡◌, ◌⊎◌, ℕ, List, codes, IsTrue, Option, Some, None, Err}
use Rattle.std.specs.Prelude.{option_and_then, if◌then◌else◌, refl}
use Rattle.std.{specs.Str.bytes_eq, proofs.lemmas.Bool.false≢true}
use Rattle.std.proofs.Common.{false, sym, subst}
use Rattle.toml.specs.Data.{Data, string, as_str}
use Rattle.cargo_toml.specs.Writes.{Way, AreLawful, IsWriting, never_left_out}
use Rattle.cargo_toml.specs.{Error.Error, Faults.IsOther, Manifests.ManifestMeaning}
use Rattle.cargo_toml.specs.{Floats.has_no_float, WrittenManifests.manifest_way}
use Rattle.cargo_toml_bench.specs.Spelled.{IsTextOf, RefusesText}
use Rattle.cargo_toml_bench.specs.declared.audience.Audience.{Audience}
use Rattle.cargo_toml_bench.specs.declared.audience.Audience.TheVariants.{Everyone, Team, Undecided}

-- the audience that a text names, and that a tree does
abbrev pub audience_named : List ℕ → Option Audience
audience_named text =
    if bytes_eq text (codes "everyone") then Some Everyone
    else if bytes_eq text (codes "team") then Some Team
    else None

abbrev pub audience_reads : Data → Option Audience
audience_reads d = option_and_then audience_named (as_str d)

abbrev pub AudienceRefuses : Data → Error → Type 0
AudienceRefuses d e = IsOther (codes "unknown audience") e

-- the trees of an audience
abbrev pub IsAudienceTree : Audience → Data → Type 0
IsAudienceTree Everyone d = d ≡ string (codes "everyone")
IsAudienceTree Team d = d ≡ string (codes "team")
IsAudienceTree Undecided d = ⊥

abbrev pub IsUndecided : Audience → Error → Type 0
IsUndecided x e = (x ≡ Undecided) × IsOther (codes "undecided audience") e

-- none of these trees holds a float, and only what is settled has one
floatless : (x : Audience) (d : Data) → IsAudienceTree x d → IsTrue (has_no_float d)
floatless Everyone d is = subst (λ tree. IsTrue (has_no_float tree)) (sym is) refl
floatless Team d is = subst (λ tree. IsTrue (has_no_float tree)) (sym is) refl
floatless Undecided d is = absurd is

pub settled : (x : Audience) → AreLawful (IsAudienceTree x) (¬ (x ≡ Undecided)) (IsUndecided x)
settled x = record {
  floatless = floatless x;
  only = λ d is e. subst (λ y. IsAudienceTree y d) e is;
  never = λ asked e refused. asked refused.0;
}

abbrev pub audience_way : Way Audience
audience_way = record {
  trees = IsAudienceTree;
  refuses = IsUndecided;
  left_out = never_left_out;
  asks = λ x. ¬ (x ≡ Undecided);
  asks_nothing = false;
  lawful = settled;
  nothing = λ is x. absurd (false≢true is);
}

-- what the metadata of a manifest's package say
abbrev pub audience_in : ManifestMeaning Audience → Option Audience
audience_in m = option_and_then (λ p. p.metadata) m.«package»

-- the bytes are the text of this manifest
abbrev pub IsOwnText : List ℕ → ManifestMeaning Audience → Type 0
IsOwnText bytes m = IsTextOf audience_reads bytes m

-- the bytes are the text of a manifest whose package has this audience
abbrev pub IsAudienceOf : List ℕ → Option Audience → Type 0
IsAudienceOf bytes answer =
    (m : ManifestMeaning Audience) × IsOwnText bytes m × (answer ≡ audience_in m)

-- the tree is one of the manifest that the bytes spell
abbrev pub IsRewrittenOwn : List ℕ → Data → Type 0
IsRewrittenOwn bytes tree =
    (m : ManifestMeaning Audience) × IsOwnText bytes m × (manifest_way audience_way).trees m tree

-- why there is no answer
abbrev pub Refuses : List ℕ → Error → Type 0
Refuses bytes e = RefusesText audience_reads AudienceRefuses bytes e

-- why no tree is written: the bytes are refused, or what they spell can't be written
abbrev pub RefusesRewriting : List ℕ → Error → Type 0
RefusesRewriting bytes e =
    Refuses bytes e
    ⊎ ((m : ManifestMeaning Audience) × IsOwnText bytes m
    × IsWriting (manifest_way audience_way) m (Err e))
