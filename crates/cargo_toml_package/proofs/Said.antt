-- Tables that say whether they are inherited, and tables that do not.
use Rattle.cargo_toml_package.proofs.Cited.{Bool, Data, DetailMeaning, InheritedMeaning, Members, None, Option, Some, as_bool, codes, detail_of_table, detailed, false, get_member, given_of, inherited, inherited_of, inherited_or, is_some, option_and_then, option_map, refl, required_at, required_of, says_workspace, strict_of, true, ◌≡◌}

-- a table that says whether it is inherited reads as an inherited dependency or not at all
at_flag : {A B R : Type 0} (w : Option Bool) (a : Option A) (b : Option B) (f : A → B → Bool → R) → is_some w ≡ true →
    option_and_then (λ z. option_and_then (λ x. option_and_then (λ y. Some (f x y z)) b) a) w ≡ option_and_then (λ x. option_and_then (λ y. option_and_then (λ z. Some (f x y z)) w) b) a
at_flag None a b f says = absurd cc
at_flag (Some c) a b f says = refl

both_ways : {A B R : Type 0} (o : Option Data) (a : Option A) (b : Option B) (f : A → B → Bool → R) → is_some (required_of as_bool o) ≡ true →
    option_and_then (λ z. option_and_then (λ x. option_and_then (λ y. Some (f x y z)) b) a) (required_of as_bool o) ≡ option_and_then (λ x. option_and_then (λ y. option_and_then (λ z. Some (f x y z)) (given_of as_bool false o)) b) a
both_ways None a b f says = absurd cc
both_ways (Some d) a b f says = at_flag (as_bool d) a b f says

lacks : {A B V R S : Type 0} (w : Option Bool) (v : Option V) (a : Option A) (b : Option B) (f : A → B → Bool → R) (g : V → A → B → Option S) → is_some w ≡ true →
    option_and_then (λ z. option_and_then (λ x. option_and_then (λ y. Some (f x y z)) b) a) w ≡ None → option_and_then (λ u. option_and_then (λ x. option_and_then (λ y. g u x y) b) a) v ≡ None
lacks None v a b f g says none = absurd cc
lacks (Some c) None a b f g says none = refl
lacks (Some c) (Some u) None b f g says none = refl
lacks (Some c) (Some u) (Some x) None f g says none = refl
lacks (Some c) (Some u) (Some x) (Some y) f g says none = absurd cc

said_as : (s i : Option InheritedMeaning) (d : Option DetailMeaning) → s ≡ i → (s ≡ None → d ≡ None) → inherited_or s d ≡ option_map inherited i
said_as None i d is none = rw (none refl, ← is) refl
said_as (Some x) i d is none = rw (← is) refl

pub said : (ms : Members) → says_workspace ms ≡ true → inherited_or (strict_of ms) (detail_of_table ms) ≡ option_map inherited (inherited_of ms)
said ms says = said_as (strict_of ms) (inherited_of ms) (detail_of_table ms) (both_ways (get_member (codes "workspace") ms) _ _ (λ x y z. record { features = x; optional = y; workspace = z }) says)
    (lacks (required_at "workspace" as_bool ms) _ _ _ (λ x y z. record { features = x; optional = y; workspace = z }) _ says)

unsaid_as : {M : Type 0} (w : Option Bool) (f : Bool → Option M) → is_some w ≡ false → option_and_then f w ≡ None
unsaid_as None f says = refl
unsaid_as (Some c) f says = absurd cc

pub unsaid : (ms : Members) → says_workspace ms ≡ false → inherited_or (strict_of ms) (detail_of_table ms) ≡ option_map detailed (detail_of_table ms)
unsaid ms says = rw (unsaid_as (required_at "workspace" as_bool ms) _ says) refl
