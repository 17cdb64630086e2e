-- What is found in a folder of products.
use Rattle.std.specs.Prelude.{Bool, false, not, ◌&&◌, List, [], ◌∷◌, ◌++◌, map}
use Rattle.std.specs.Prelude.{filter, Option, Some, None, is_some, if◌then◌else◌, codes}
use Rattle.std.specs.{List.list_any, List.filter_map, Option.option_or, Cmp.Lexicographic.slice_cmp}
use Rattle.std.specs.{Ordering.nat_cmp, Ordering.is_lt, Str.bytes_eq}
use Rattle.cargo_toml_parts.specs.declared.settings.Edition.{Edition}
use Rattle.cargo_toml_parts.specs.Products.{ProductMeaning, no_product}
use Rattle.cargo_toml_discovery.specs.Names.{Name, in_folder, is_source, stem}
use Rattle.cargo_toml_discovery.specs.Sorting.{in_order}

-- a name in a folder, and whether the folder of that name holds `main.rs`
pub record Named : Type 0 where
  pub name : Name
  pub has_main : Bool

-- what a name in a folder offers: that name, and the name and the path of a product
pub record Offered : Type 0 where
  pub file : Name
  pub name : Name
  pub path : Name

-- a source offers itself, under its name without `.rs`; another name its `main.rs`, if it holds one
abbrev pub offer_of : Name → Named → Option Offered
offer_of folder e =
    if is_source e.name then
    Some (record { file = e.name; name = stem e.name; path = in_folder folder e.name })
    else if e.has_main then
    Some (record {
      file = e.name;
      name = e.name;
      path = in_folder folder e.name ++ codes "/main.rs";
    })
    else None

-- there is a text, and it is this one
abbrev pub is_text : Name → Option Name → Bool
is_text t None = false
is_text t (Some u) = bytes_eq u t

-- a product with a path stays
abbrev pub has_path : ProductMeaning → Bool
has_path p = is_some p.path

-- some product has the path
abbrev pub is_path_of : List ProductMeaning → Name → Bool
is_path_of ps path = list_any (λ p. is_text path p.path) ps

-- an offer, unless its path is taken
abbrev pub still_open : (Name → Bool) → Option Offered → Option Offered
still_open is_taken None = None
still_open is_taken (Some o) = if is_taken o.path then None else Some o

-- what a name offers, unless its path is taken
abbrev pub open_offer : Name → (Name → Bool) → Named → Option Offered
open_offer folder is_taken e = still_open is_taken (offer_of folder e)

-- what the names of the folder offer, except the paths that are taken
abbrev pub offers : Name → (Name → Bool) → List Named → List Offered
offers folder is_taken es = filter_map (open_offer folder is_taken) es

-- a product without a path waits for an offer of its name
abbrev pub waits_for : Name → ProductMeaning → Bool
waits_for n p = not (has_path p) && is_text n p.name

-- the product, if it waits for the name, and else the other one
abbrev pub waits_or : ProductMeaning → Name → Option ProductMeaning → Option ProductMeaning
waits_or p n other = if waits_for n p then Some p else other

-- the last product that waits for the name
abbrev pub last_waiting : List ProductMeaning → Name → Option ProductMeaning
last_waiting [] n = None
last_waiting (p ∷ ps) n = option_or (last_waiting ps n) (waits_or p n None)

-- the product of an offer that none waits for
abbrev pub new_product : Edition → Offered → ProductMeaning
new_product edition o =
    record no_product { name = Some o.name; path = Some o.path; edition = Some edition }

-- the product of an offer: the one that takes it, with that path, or else a new one
abbrev pub product_for : Edition → Offered → Option ProductMeaning → ProductMeaning
product_for edition o None = new_product edition o
product_for edition o (Some p) = record p { path = Some o.path }

-- another offer of the same product name, with a lesser file name
abbrev pub goes_before : Offered → Offered → Bool
goes_before q o = bytes_eq q.name o.name && is_lt (slice_cmp nat_cmp q.file o.file)

-- of the offers of its product name it has the least file name
abbrev pub is_first : List Offered → Offered → Bool
is_first os o = not (list_any (λ q. goes_before q o) os)

-- a waiting product takes the first offer of its name
abbrev pub taker : List ProductMeaning → List Offered → Offered → Option ProductMeaning
taker ps os o = if is_first os o then last_waiting ps o.name else None

-- the product of an offer, by the products that are stated and all offers of the folder
abbrev pub product_among : Edition → List ProductMeaning → List Offered → Offered → ProductMeaning
product_among edition ps os o = product_for edition o (taker ps os o)

-- some offer has the product name
abbrev pub has_offer : List Offered → Name → Bool
has_offer os n = list_any (λ q. bytes_eq q.name n) os

-- a waiting product takes one offer more where no other offer has its name
abbrev pub late_taker : List ProductMeaning → List Offered → Offered → Option ProductMeaning
late_taker ps os o = if has_offer os o.name then None else last_waiting ps o.name

-- the product of the last offer, if there is one
abbrev pub last_product : Edition → List ProductMeaning → List Offered → Option Offered
    → List ProductMeaning
last_product edition ps os None = []
last_product edition ps os (Some o) = product_for edition o (late_taker ps os o) ∷ []

-- the products that stay, and one for each offer
abbrev pub all_found : Edition → List ProductMeaning → List Offered → Option Offered
    → List ProductMeaning
all_found edition ps os extra =
    filter has_path ps ++ (map (product_among edition ps os) os ++ last_product edition ps os extra)

-- the products of a folder, in order: those that have a path, and one for each offer of the folder
-- and of one beside it
abbrev pub found : Edition → Name → List ProductMeaning → List Named → Option Offered
    → List ProductMeaning
found edition folder ps es extra =
    in_order (all_found edition ps (offers folder (is_path_of ps) es) extra)
