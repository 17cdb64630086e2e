-- Products by name and then by path, none before any text, where equal ones stay in their order.
use Rattle.std.specs.Prelude.{Bool, List, [], ◌∷◌, Option, if◌then◌else◌}
use Rattle.std.specs.{declared.cmp.Ordering.Ordering, Option.option_cmp}
use Rattle.std.specs.Ordering.{nat_cmp, is_lt, ordering_then}
use Rattle.std.specs.Cmp.Lexicographic.{slice_cmp}
use Rattle.cargo_toml_parts.specs.Products.{ProductMeaning}
use Rattle.cargo_toml_discovery.specs.Names.{Name}

-- texts by their bytes, none before any
abbrev pub text_cmp : Option Name → Option Name → Ordering
text_cmp a b = option_cmp (slice_cmp nat_cmp) a b

-- products by name, and then by path
abbrev pub product_cmp : ProductMeaning → ProductMeaning → Ordering
product_cmp a b = ordering_then (text_cmp a.name b.name) (text_cmp a.path b.path)

-- the product goes before the other
abbrev pub product_lt : ProductMeaning → ProductMeaning → Bool
product_lt a b = is_lt (product_cmp a b)

-- x before the first element that is not less
abbrev pub insert_by : {X : Type 0} → (X → X → Bool) → X → List X → List X
insert_by lt x [] = x ∷ []
insert_by lt x (y ∷ ys) = if lt y x then y ∷ insert_by lt x ys else x ∷ y ∷ ys

-- the elements in order; those that tie stay in theirs
abbrev pub sorted_by : {X : Type 0} → (X → X → Bool) → List X → List X
sorted_by lt [] = []
sorted_by lt (x ∷ xs) = insert_by lt x (sorted_by lt xs)

-- the products in order
abbrev pub in_order : List ProductMeaning → List ProductMeaning
in_order ps = sorted_by product_lt ps
