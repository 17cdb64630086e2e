-- Discovery of what was discovered.
use Rattle.cargo_toml_discovery.proofs.Cited.{Around, Bool, Edition, File, List, Name, Named, None, Offered, Option, ProductMeaning, Some, StatedMeaning, [], all_found, ap, append-nil, at_library, build_in, bytes_eq, codes, cond, cons_option, discovered, false, filled_library, filter, first_in, flag, found, has_path, has_text, in_order, insert_by, is_path_of, is_some, is_text, last_product, late_taker, library}
use Rattle.cargo_toml_discovery.proofs.Cited.{list_any, list_any-append, listed_products, main_of, main_offer, map, may_build, offer_of, offers, or_left, or_plain_library, or_right, path, product_among, product_for, product_lt, readme_in, readme_names, refl, restated, sorted_by, still_open, sym, taker, true, ◌&&◌, ◌++◌, ◌||◌, ◌∙◌, ◌∷◌, ◌≡◌}
use Rattle.cargo_toml_discovery.proofs.Stable.{products_rank, one_sort, sorted-sorted_by, filter-sorted_by}
use Rattle.cargo_toml_discovery.proofs.{Unique.own, Unique.or-swap}

-- the build script
abbrev script : Option File
script = Some (path (codes "build.rs"))

built : (there : Bool) (f : Option File) → cond (may_build (cond (may_build f && there) script f) && there) script (cond (may_build f && there) script f) ≡ cond (may_build f && there) script f
built true None = refl
built false None = refl
built true (Some (flag true)) = refl
built false (Some (flag true)) = refl
built there (Some (flag false)) = refl
built there (Some (path p)) = refl

pub build-again : (root : List Name) (f : Option File) → build_in root (build_in root f) ≡ build_in root f
build-again root f = built (has_text root (codes "build.rs")) f

-- the readme
three : (a b c : Bool) (p q r : Name) (root : List Name) → cond a (path p) (cond b (path q) (cond c (path r) (flag true))) ≡ first_in root readme_names (flag true) →
    readme_in root (cond a (path p) (cond b (path q) (cond c (path r) (flag true)))) ≡ cond a (path p) (cond b (path q) (cond c (path r) (flag true)))
three true b c p q r root h = refl
three false true c p q r root h = refl
three false false true p q r root h = refl
three false false false p q r root h = sym h

pub readme-again : (root : List Name) (f : File) → readme_in root (readme_in root f) ≡ readme_in root f
readme-again root (flag true) = three (has_text root (codes "README.md")) (has_text root (codes "README.txt")) (has_text root (codes "README")) (codes "README.md") (codes "README.txt") (codes "README") root refl
readme-again root (flag false) = refl
readme-again root (path p) = refl

-- the library
plain-again : (ts : List Name) → or_plain_library (or_plain_library ts) ≡ or_plain_library ts
plain-again [] = refl
plain-again (t ∷ ts) = refl

filled-again : (name : Name) (edition : Edition) (p : ProductMeaning) → filled_library name edition (filled_library name edition p) ≡ filled_library name edition p
filled-again name edition p = ap (λ (ts : List Name). record (filled_library name edition p) { crate_type = ts }) (plain-again p.crate_type)

pub library-again : (name : Name) (edition : Edition) (there made : Bool) (l : Option ProductMeaning) → library name edition there made (library name edition there made l) ≡ library name edition there made l
library-again name edition false made None = refl
library-again name edition false made (Some p) = ap (λ (q : ProductMeaning). Some q) (filled-again name edition p)
library-again name edition true true None = refl
library-again name edition true false None = refl
library-again name edition true true (Some p) = ap (λ (q : ProductMeaning). Some q) (filled-again name edition (at_library p))
library-again name edition true false (Some p) = ap (λ (q : ProductMeaning). Some q) (filled-again name edition (at_library p))

pub sorted-again : (ps : List ProductMeaning) → in_order (in_order ps) ≡ in_order ps
sorted-again ps =
    let rank = products_rank (λ p. p) in
    one_sort product_lt rank (in_order (in_order ps)) (in_order ps) (sorted-sorted_by product_lt rank (in_order ps)) (sorted-sorted_by product_lt rank ps) (λ x. filter-sorted_by product_lt rank x (in_order ps))

-- each product that is found has a path
abbrev HavePaths : List ProductMeaning → Type 0
HavePaths [] = Unit {0}
HavePaths (p ∷ ps) = (has_path p ≡ true) × HavePaths ps

filter-all : (ps : List ProductMeaning) → HavePaths ps → filter has_path ps ≡ ps
filter-all [] h = refl
filter-all (p ∷ ps) h = ap (λ (b : Bool). cond b (p ∷ filter has_path ps) (filter has_path ps)) h.0 ∙ ap (λ (qs : List ProductMeaning). p ∷ qs) (filter-all ps h.1)

have-filter : (ps : List ProductMeaning) → HavePaths (filter has_path ps)
have-filter [] = tt
have-filter (p ∷ ps) = elim (has_path p) as (λ b. has_path p ≡ b → HavePaths (cond b (p ∷ filter has_path ps) (filter has_path ps)))
    [ true ↦ λ e. (e, have-filter ps) | false ↦ λ e. have-filter ps ] refl

have-append : (ps qs : List ProductMeaning) → HavePaths ps → HavePaths qs → HavePaths (ps ++ qs)
have-append [] qs h k = k
have-append (p ∷ ps) qs h k = (h.0, have-append ps qs h.1 k)

placed-path : (edition : Edition) (o : Offered) (w : Option ProductMeaning) → (product_for edition o w).path ≡ Some o.path
placed-path edition o None = refl
placed-path edition o (Some p) = refl

has-placed : (edition : Edition) (o : Offered) (w : Option ProductMeaning) → has_path (product_for edition o w) ≡ true
has-placed edition o None = refl
has-placed edition o (Some p) = refl

have-among : (edition : Edition) (ps : List ProductMeaning) (all os : List Offered) → HavePaths (map (product_among edition ps all) os)
have-among edition ps all [] = tt
have-among edition ps all (o ∷ os) = (has-placed edition o (taker ps all o), have-among edition ps all os)

have-last : (edition : Edition) (ps : List ProductMeaning) (os : List Offered) (x : Option Offered) → HavePaths (last_product edition ps os x)
have-last edition ps os None = tt
have-last edition ps os (Some o) = (has-placed edition o (late_taker ps os o), tt)

have-insert : (x : ProductMeaning) (ys : List ProductMeaning) → has_path x ≡ true → HavePaths ys → HavePaths (insert_by product_lt x ys)
have-insert x [] e h = (e, tt)
have-insert x (y ∷ ys) e h = elim (product_lt y x) as (λ b. HavePaths (cond b (y ∷ insert_by product_lt x ys) (x ∷ y ∷ ys)))
    [ true ↦ (h.0, have-insert x ys e h.1) | false ↦ (e, h) ]

have-sorted : (xs : List ProductMeaning) → HavePaths xs → HavePaths (sorted_by product_lt xs)
have-sorted [] h = tt
have-sorted (x ∷ xs) h = have-insert x (sorted_by product_lt xs) h.0 (have-sorted xs h.1)

-- which paths these are
path-insert : (x : ProductMeaning) (ys : List ProductMeaning) (t : Name) → is_path_of (insert_by product_lt x ys) t ≡ (is_text t x.path || is_path_of ys t)
path-insert x [] t = refl
path-insert x (y ∷ ys) t = elim (product_lt y x) as (λ b. is_path_of (cond b (y ∷ insert_by product_lt x ys) (x ∷ y ∷ ys)) t ≡ (is_text t x.path || is_path_of (y ∷ ys) t))
    [ true ↦ ap (λ (b : Bool). is_text t y.path || b) (path-insert x ys t) ∙ or-swap (is_text t y.path) (is_text t x.path) (is_path_of ys t) | false ↦ refl ]

path-sorted : (xs : List ProductMeaning) (t : Name) → is_path_of (sorted_by product_lt xs) t ≡ is_path_of xs t
path-sorted [] t = refl
path-sorted (x ∷ xs) t = path-insert x (sorted_by product_lt xs) t ∙ ap (λ (b : Bool). is_text t x.path || b) (path-sorted xs t)

path-kept : (r : Option Name) (p : ProductMeaning) (qs : List ProductMeaning) (t : Name) → p.path ≡ r → is_path_of (cond (is_some r) (p ∷ qs) qs) t ≡ (is_text t r || is_path_of qs t)
path-kept None p qs t e = refl
path-kept (Some u) p qs t e = ap (λ (r : Option Name). is_text t r || is_path_of qs t) e

path-filter : (ps : List ProductMeaning) (t : Name) → is_path_of (filter has_path ps) t ≡ is_path_of ps t
path-filter [] t = refl
path-filter (p ∷ ps) t = path-kept p.path p (filter has_path ps) t refl ∙ ap (λ (b : Bool). is_text t p.path || b) (path-filter ps t)

-- some offer has the path
abbrev offered : List Offered → Name → Bool
offered os t = list_any (λ o. bytes_eq o.path t) os

path-among : (edition : Edition) (ps : List ProductMeaning) (all os : List Offered) (t : Name) → is_path_of (map (product_among edition ps all) os) t ≡ offered os t
path-among edition ps all [] t = refl
path-among edition ps all (o ∷ os) t =
    ap (λ (r : Option Name). is_text t r || is_path_of (map (product_among edition ps all) os) t) (placed-path edition o (taker ps all o))
    ∙ ap (λ (b : Bool). bytes_eq o.path t || b) (path-among edition ps all os t)

path-found : (edition : Edition) (folder : Name) (ps : List ProductMeaning) (es : List Named) (x : Option Offered) (t : Name) →
    is_path_of (found edition folder ps es x) t ≡ (is_path_of ps t || (offered (offers folder (is_path_of ps) es) t || is_path_of (last_product edition ps (offers folder (is_path_of ps) es) x) t))
path-found edition folder ps es x t =
    let os = offers folder (is_path_of ps) es in
    let placed = map (product_among edition ps os) os in
    let last = last_product edition ps os x in
    path-sorted (filter has_path ps ++ (placed ++ last)) t
    ∙ list_any-append (λ p. is_text t p.path) (filter has_path ps) (placed ++ last)
    ∙ ap (λ (b : Bool). b || is_path_of (placed ++ last) t) (path-filter ps t)
    ∙ ap (λ (b : Bool). is_path_of ps t || b) (list_any-append (λ p. is_text t p.path) placed last ∙ ap (λ (b : Bool). b || is_path_of last t) (path-among edition ps os os t))

-- no offer is open any more
module _ (folder : Name) (f g : Name → Bool) (more : (t : Name) → f t ≡ true → g t ≡ true) where
  taken : (o : Offered) (rest : List Offered) → g o.path ≡ true → rest ≡ [] → cons_option (still_open g (Some o)) rest ≡ []
  taken o rest e r = ap (λ (b : Bool). cons_option (cond b None (Some o)) rest) e ∙ r

  none-step : (r : Option Offered) (os rest : List Offered) → ((t : Name) → offered (cons_option (still_open f r) os) t ≡ true → g t ≡ true) →
      (((t : Name) → offered os t ≡ true → g t ≡ true) → rest ≡ []) → cons_option (still_open g r) rest ≡ []
  none-step None os rest h next = next h
  none-step (Some o) os rest h next = elim (f o.path) as (λ b. f o.path ≡ b → ((t : Name) → offered (cons_option (cond b None (Some o)) os) t ≡ true → g t ≡ true) → cons_option (still_open g (Some o)) rest ≡ []) [
    | true ↦ λ e k. taken o rest (more o.path e) (next k)
    | false ↦ λ e k. taken o rest (k o.path (ap (λ (b : Bool). b || offered os o.path) (own o.path))) (next (λ t i. k t (or_right (bytes_eq o.path t) (offered os t) i)))
  ] refl h

  none-open : (es : List Named) → ((t : Name) → offered (offers folder f es) t ≡ true → g t ≡ true) → offers folder g es ≡ []
  none-open [] h = refl
  none-open (e ∷ es) h = none-step (offer_of folder e) (offers folder f es) (offers folder g es) h (none-open es)

module _ (edition : Edition) (folder : Name) (ps : List ProductMeaning) (es : List Named) where
  have-found : (x : Option Offered) → HavePaths (found edition folder ps es x)
  have-found x =
      let os = offers folder (is_path_of ps) es in
      have-sorted _ (have-append (filter has_path ps) (map (product_among edition ps os) os ++ last_product edition ps os x) (have-filter ps)
      (have-append (map (product_among edition ps os) os) (last_product edition ps os x) (have-among edition ps os os) (have-last edition ps os x)))

  none-left : (x : Option Offered) → offers folder (is_path_of (found edition folder ps es x)) es ≡ []
  none-left x =
      let os = offers folder (is_path_of ps) es in
      let last = last_product edition ps os x in
      none-open folder (is_path_of ps) (is_path_of (found edition folder ps es x))
      (λ t h. path-found edition folder ps es x t ∙ or_left (is_path_of ps t) (offered os t || is_path_of last t) h) es
      (λ t h. path-found edition folder ps es x t ∙ or_right (is_path_of ps t) (offered os t || is_path_of last t) (or_left (offered os t) (is_path_of last t) h))

  pub found-again : (x : Option Offered) → found edition folder (found edition folder ps es x) es None ≡ found edition folder ps es x
  found-again x =
      let q = found edition folder ps es x in
      ap (λ (os : List Offered). in_order (filter has_path q ++ (map (product_among edition q os) os ++ []))) (none-left x)
      ∙ ap (λ (rs : List ProductMeaning). in_order (rs ++ [])) (filter-all q (have-found x))
      ∙ ap in_order (append-nil q)
      ∙ sorted-again (all_found edition ps (offers folder (is_path_of ps) es) x)

  -- `src/main.rs` is no offer any more
  main-path : (m : Offered) → is_path_of (found edition folder ps es (still_open (is_path_of ps) (Some m))) m.path ≡ true
  main-path m =
      let os = offers folder (is_path_of ps) es in
      let t = m.path in
      elim (is_path_of ps t) as (λ b. is_path_of ps t ≡ b → is_path_of (found edition folder ps es (cond b None (Some m))) t ≡ true) [
        | true ↦ λ e. path-found edition folder ps es None t ∙ or_left (is_path_of ps t) (offered os t || false) e
        | false ↦ λ e. path-found edition folder ps es (Some m) t
            ∙ or_right (is_path_of ps t) (offered os t || is_path_of (last_product edition ps os (Some m)) t)
            (or_right (offered os t) (is_path_of (last_product edition ps os (Some m)) t)
            (ap (λ (r : Option Name). is_text t r || false) (placed-path edition m (late_taker ps os m)) ∙ ap (λ (b : Bool). b || false) (own t)))
      ] refl

  main-again : (name : Name) (there : Bool) → main_offer name there (found edition folder ps es (main_offer name there ps)) ≡ None
  main-again name false = refl
  main-again name true = ap (λ (b : Bool). cond b None (Some (main_of name))) (main-path (main_of name))

  pub list-again : (wanted : Bool) → listed_products edition wanted folder (listed_products edition wanted folder ps es None) es None ≡ listed_products edition wanted folder ps es None
  list-again false = sorted-again ps
  list-again true = found-again None

  pub bins-again : (wanted : Bool) (name : Name) (there : Bool) →
      listed_products edition wanted folder (listed_products edition wanted folder ps es (main_offer name there ps)) es (main_offer name there (listed_products edition wanted folder ps es (main_offer name there ps)))
      ≡ listed_products edition wanted folder ps es (main_offer name there ps)
  bins-again false name there = sorted-again ps
  bins-again true name there =
      ap (λ (x : Option Offered). found edition folder (found edition folder ps es (main_offer name there ps)) es x) (main-again name there)
      ∙ found-again (main_offer name there ps)

-- all parts
pub discovered-again : (s : StatedMeaning) (a : Around) → discovered (restated s (discovered s a)) a ≡ discovered s a
discovered-again s a =
    rw (
      library-again s.name s.edition (has_text a.src (codes "lib.rs")) s.autolib s.stated.lib,
      bins-again s.edition (codes "src/bin") s.stated.bin a.bins s.wanted.bins s.name (has_text a.src (codes "main.rs")),
      list-again s.edition (codes "examples") s.stated.example a.examples s.wanted.examples,
      list-again s.edition (codes "tests") s.stated.test a.tests s.wanted.tests,
      list-again s.edition (codes "benches") s.stated.bench a.benches s.wanted.benches,
      build-again a.root s.stated.build,
      readme-again a.root s.stated.readme,
    ) refl
