-- How the code finds products: a walk over the offers. It gives what `Found` says, so nothing here
-- has to be believed.
use Rattle.std.specs.Prelude.{◌≡◌, Bool, List, [], ◌∷◌, ◌++◌, option_to_list, Option, None}
use Rattle.std.specs.Prelude.{option_map, if◌then◌else◌, string_bytes, map}
use Rattle.std.specs.{BTreeMap.BTreeMap, BTreeMap.get_by, BTreeSet.BTreeSet, BTreeSet.contains_by}
use Rattle.std.specs.{Cmp.Lexicographic.slice_cmp, List.Sorted.IsStrictlySortedBy, Ordering.nat_cmp}
use Rattle.std.specs.Str.{bytes_eq}
use denote.Ref.{Bor}
use Rattle.cargo_toml_parts.specs.declared.settings.Edition.{Edition}
use Rattle.cargo_toml_parts.specs.Products.{ProductMeaning, product_meaning}
use Rattle.cargo_toml_parts.specs.declared.product.Product.{Product}
use Rattle.cargo_toml_discovery.specs.declared.found.Offer as code_offer
use Rattle.cargo_toml_discovery.specs.declared.found.Placing as code_placing
use Rattle.cargo_toml_discovery.specs.declared.listings.Entry as code_entry
use Rattle.cargo_toml_discovery.specs.Found.{Named, Offered, product_for}
use Rattle.cargo_toml_discovery.specs.Names.{Name}

abbrev pub named_of : code_entry.Entry → Named
named_of e = record { name = e.name.now; has_main = e.has_main }

abbrev pub all_named : List code_entry.Entry → List Named
all_named es = map named_of es

-- what the code keeps of an offer
abbrev pub offer_parts : Offered → Name × Name
offer_parts o = (o.name, o.path)

abbrev pub parts_of_code : code_offer.Offer → Name × Name
parts_of_code o = (string_bytes o.name, string_bytes o.path)

-- the code's offer is this one
abbrev pub IsOffer : Option Offered → Option code_offer.Offer → Type 0
IsOffer o offer = option_map offer_parts o ≡ option_map parts_of_code offer

abbrev pub Waiting : Type 0
Waiting = BTreeMap (Bor Name) (Bor Product)

-- what waits in a map, and which paths are in a set
abbrev pub waiting_in : Waiting → Name → Option ProductMeaning
waiting_in m n = option_map (λ p. product_meaning p.now) (get_by (λ k. slice_cmp nat_cmp n k.now) m)

abbrev pub is_path_in : BTreeSet (Bor Name) → Name → Bool
is_path_in s t = contains_by (λ k. slice_cmp nat_cmp t k.now) s

-- what waits, without that which waits for this name
abbrev pub without : (Name → Option ProductMeaning) → Name → Name → Option ProductMeaning
without w n m = if bytes_eq n m then None else w m

-- the products of the offers, where this waits
abbrev pub walk : Edition → (Name → Option ProductMeaning) → List Offered → List ProductMeaning
walk edition w [] = []
walk edition w (o ∷ os) = product_for edition o (w o.name) ∷ walk edition (without w o.name) os

-- the products that are placed, and those of the offers that are left, where these
-- products still wait
abbrev pub walked : code_placing.Placing → List Offered → List ProductMeaning
walked p os = map product_meaning p.list.items ++ walk p.edition (waiting_in p.still) os

abbrev pub with_extra : List Offered → Option Offered → List Offered
with_extra os extra = os ++ option_to_list extra

-- the names stand in byte order, each once
abbrev pub NamesAscend : List Named → Type 0
NamesAscend es = IsStrictlySortedBy (slice_cmp nat_cmp) (map (λ e. e.name) es)
