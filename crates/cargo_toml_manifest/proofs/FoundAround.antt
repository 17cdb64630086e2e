-- What is found around a manifest whose package takes its fields.
use Rattle.cargo_toml_manifest.proofs.Cited.{Answers, Around, Bool, Discovered, DiscoveredMeaning, E2015, Error, Fault, IsOneOf, List, ManifestMeaning, Name, Named, NewFields, NewParts, None, Option, PackageMeaning, Seen, Some, StatedMeaning, Tells, Told, Wanted, [], absent, and_then, answer_at, ap, around, around_in, codes, cond, denied, discovered, discovered_meaning, each_named, entries_at, false, fault_of, faulty, filled, filled_by, flag}
use Rattle.cargo_toml_manifest.proofs.Cited.{found_around, found_for, in_folder, inl, inr, installed, installed_if_there, is_source, make_around, map, named_at, named_by, names, names_at, open_path, pair, refl, root_names, seen, seen_as, stated_by, subst, sym, taken, true, unclear, unwrap_or, value_of, wanted_by, with_discovered, with_found, with_found_for, wrap, ◌∙◌, ◌∷◌, ◌≡◌, ◌⊎◌}
use Rattle.cargo_toml_manifest.proofs.Heard.{tell-as}

-- the second is the first, unless that is unclear
abbrev pub Ext : {A : Type 0} → Seen A → Seen A → Type 0
Ext s t = (s ≡ unclear) ⊎ (t ≡ s)

pub ext-as : {A B : Type 0} (g : A → B) (s t : Seen A) → Ext s t → Ext (seen_as g s) (seen_as g t)
ext-as g s t (inl e) = inl (ap (λ u. seen_as g u) e)
ext-as g s t (inr e) = inr (ap (λ u. seen_as g u) e)

abbrev open_of : (B : Type 0) → Seen B
open_of B = unclear

pair-unclear : {A B : Type 0} (s : Seen A) → pair s (open_of B) ≡ unclear
pair-unclear (seen x) = refl
pair-unclear (faulty fs) = refl
pair-unclear unclear = refl

ext-pair : {A B : Type 0} (s t : Seen A) (u v : Seen B) → Ext s t → Ext u v → Ext (pair s u) (pair t v)
ext-pair s t u v (inl e) k = inl (ap (λ w. pair w u) e)
ext-pair s t u v (inr e) (inl k) = inl (ap (λ w. pair s w) k ∙ pair-unclear s)
ext-pair s t u v (inr e) (inr k) = inr (ap (λ w. pair w v) e ∙ ap (λ w. pair s w) k)

ext-seen : {A B : Type 0} (s : Seen A) (f g : A → Seen B) → ((x : A) → Ext (f x) (g x)) → Ext (and_then s f) (and_then s g)
ext-seen (seen x) f g h = h x
ext-seen (faulty fs) f g h = inr refl
ext-seen unclear f g h = inl refl

ext-then : {A B : Type 0} (s t : Seen A) (f g : A → Seen B) → Ext s t → ((x : A) → Ext (f x) (g x)) → Ext (and_then s f) (and_then t g)
ext-then s t f g (inl e) h = inl (ap (λ w. and_then w f) e)
ext-then s t f g (inr e) h = subst (λ (w : Seen _). Ext (and_then s f) (and_then w g)) (sym e) (ext-seen s f g h)

ext-names : (t : Told) (a : Option (List Name)) → Ext (names_at t) (names_at (filled_by t a))
ext-names (names ts) a = inr refl
ext-names absent a = inr refl
ext-names (denied k) a = inr refl
ext-names open_path a = inl refl

ext-root : (t : Told) (a : Option (List Name)) → Ext (root_names t) (root_names (filled_by t a))
ext-root (names ts) a = inr refl
ext-root absent a = inr refl
ext-root (denied k) a = inr refl
ext-root open_path a = inl refl

module _ (told : Name → Told) (ans : Answers) where
  ext-named-step : (folder n : Name) (b : Bool) → Ext (cond b (seen (record { name = n; has_main = false })) (seen_as (named_by n) (names_at (told (in_folder folder n))))) (cond b (seen (record { name = n; has_main = false })) (seen_as (named_by n) (names_at (filled told ans (in_folder folder n)))))
  ext-named-step folder n true = inr refl
  ext-named-step folder n false = ext-as (named_by n) _ _ (ext-names (told (in_folder folder n)) (answer_at ans (in_folder folder n)))

  ext-each : (folder : Name) (ns : List Name) → Ext (each_named told folder ns) (each_named (filled told ans) folder ns)
  ext-each folder [] = inr refl
  ext-each folder (n ∷ ns) = ext-as (λ (e : Named × List Named). e.0 ∷ e.1) _ _ (ext-pair (named_at told folder n) (named_at (filled told ans) folder n) (each_named told folder ns) (each_named (filled told ans) folder ns) (ext-named-step folder n (is_source n)) (ext-each folder ns))

  ext-entries : (wanted : Bool) (folder : Name) → Ext (entries_at told wanted folder) (entries_at (filled told ans) wanted folder)
  ext-entries false folder = inr refl
  ext-entries true folder = ext-then (names_at (told folder)) (names_at (filled told ans folder)) (each_named told folder) (each_named (filled told ans) folder) (ext-names (told folder) (answer_at ans folder)) (ext-each folder)

  pub ext-around : (wanted : Wanted) → Ext (around told wanted) (around (filled told ans) wanted)
  ext-around wanted = ext-as make_around _ _ (ext-pair _ _ _ _ (ext-pair _ _ _ _ (ext-root (told []) (answer_at ans [])) (ext-names (told (codes "src")) (answer_at ans (codes "src"))))
      (ext-pair _ _ _ _ (ext-pair _ _ _ _ (ext-entries wanted.bins (codes "src/bin")) (ext-entries wanted.examples (codes "examples"))) (ext-pair _ _ _ _ (ext-entries wanted.tests (codes "tests")) (ext-entries wanted.benches (codes "benches")))))

pub one_of-wrapped : (p : Option Name) (f : Fault) (fs : List Fault) → IsOneOf f fs → IsOneOf (wrap p f) (map (wrap p) fs)
one_of-wrapped p f [] h = h
one_of-wrapped p f (g ∷ fs) (inl e) = inl (ap (wrap p) e)
one_of-wrapped p f (g ∷ fs) (inr h) = inr (one_of-wrapped p f fs h)

-- what a package keeps that takes its fields
pub record Keeps {M : Type 0} (p q : PackageMeaning M) : Type 0 where
  pub name : q.name ≡ p.name
  pub autolib : q.autolib ≡ p.autolib
  pub wanted : wanted_by q ≡ wanted_by p
  pub build : q.build ≡ p.build

pub taken_keeps : {M : Type 0} (p : PackageMeaning M) (new : Option NewFields) →
    Keeps p (taken p new)
taken_keeps p None = record { name = refl; autolib = refl; wanted = refl; build = refl }
taken_keeps p (Some n) = record { name = refl; autolib = refl; wanted = refl; build = refl }

pub stated_so : {M : Type 0} (m : ManifestMeaning M) (p : PackageMeaning M)
    (new : Option NewFields) (s : StatedMeaning) →
    s.name ≡ p.name →
    s.edition ≡ unwrap_or (value_of (taken p new).edition) E2015 →
    s.autolib ≡ p.autolib →
    s.wanted ≡ wanted_by p →
    s.stated.lib ≡ m.lib →
    s.stated.bin ≡ m.bin →
    s.stated.example ≡ m.example →
    s.stated.test ≡ m.test →
    s.stated.bench ≡ m.bench →
    s.stated.build ≡ p.build →
    s.stated.readme ≡ unwrap_or (value_of (taken p new).readme) (flag false) →
    s ≡ stated_by m (taken p new)
stated_so m p new s name edition autolib wanted lib bin example test bench build readme =
    let keeps = taken_keeps p new in
    rw (
      keeps.name ∙ sym name,
      sym edition,
      keeps.autolib ∙ sym autolib,
      keeps.wanted ∙ sym wanted,
      sym lib,
      sym bin,
      sym example,
      sym test,
      sym bench,
      keeps.build ∙ sym build,
      sym readme,
    ) refl

-- what was found, and a refusal, by what is seen around the package
module _ {M : Type 0} (m : ManifestMeaning M) (p : PackageMeaning M) (is : m.«package» ≡ Some p) where
  around_package : (told : Name → Told) →
      found_around m told
      ≡ seen_as (λ a. with_discovered m p (discovered (stated_by m p) a)) (around told (wanted_by p))
  around_package told = ap (λ (o : Option (PackageMeaning M)). found_for m o told) is

  found_package : (d : Discovered) → with_found m (Some d) ≡ with_discovered m p (discovered_meaning d)
  found_package d = ap (λ (o : Option (PackageMeaning M)). with_found_for m o (Some d)) is

  found_seen : (told : Name → Told) (a : Around) (d : Discovered) → around told (wanted_by p) ≡ seen a →
      discovered_meaning d ≡ discovered (stated_by m p) a → found_around m told ≡ seen (with_found m (Some d))
  found_seen told a d h k =
      around_package told
      ∙ ap (λ (s : Seen Around). seen_as (λ b. with_discovered m p (discovered (stated_by m p) b)) s) h
      ∙ ap (λ (e : DiscoveredMeaning). seen (with_discovered m p e)) (sym k)
      ∙ ap (λ (n : ManifestMeaning M). seen n) (sym (found_package d))

  found_faults : (told : Name → Told) (e : Error) → Tells (around told (wanted_by p)) e → Tells (found_around m told) e
  found_faults told e (inl memory) = inl memory
  found_faults told e (inr h) =
      subst (λ (s : Seen (ManifestMeaning M)). Tells s e) (sym (around_package told))
      (inr (tell-as _ (around told (wanted_by p)) (fault_of e) h))

taken_there : {M : Type 0} (p : PackageMeaning M) (new : Option NewFields) →
    installed_if_there (Some p) new ≡ Some (taken p new)
taken_there p None = refl
taken_there p (Some new) = refl

-- the same, once the package takes its fields
module _ {M : Type 0} (m : ManifestMeaning M) (p : PackageMeaning M) (new : NewParts) (is : m.«package» ≡ Some p)
    (wanted : Wanted) (wants : wanted ≡ wanted_by p) where
  takes : installed_if_there m.«package» new.«package» ≡ Some (taken p new.«package»)
  takes =
      ap (λ (o : Option (PackageMeaning M)). installed_if_there o new.«package») is ∙ taken_there p new.«package»

  wants_still : wanted ≡ wanted_by (taken p new.«package»)
  wants_still = wants ∙ sym (taken_keeps p new.«package»).wanted

  pub parts_seen : (told : Name → Told) (answers : Answers) (d : Discovered) →
      around (filled told answers) wanted ≡ seen (around_in answers wanted) →
      discovered_meaning d
      ≡ discovered (stated_by m (taken p new.«package»)) (around_in answers (wanted_by (taken p new.«package»))) →
      found_around (installed m new) (filled told answers) ≡ seen (with_found (installed m new) (Some d))
  parts_seen told answers d h k =
      found_seen (installed m new) (taken p new.«package») takes (filled told answers) _ d
      (subst (λ (w : Wanted). around (filled told answers) w ≡ seen (around_in answers w)) wants_still h) k

  pub parts_faults : (told : Name → Told) (e : Error) →
      Tells (around told wanted) e → Tells (found_around (installed m new) told) e
  parts_faults told e h =
      found_faults (installed m new) (taken p new.«package») takes told e
      (subst (λ (w : Wanted). Tells (around told w) e) wants_still h)

-- nothing is found without a package
pub found_nothing : {M : Type 0} (m : ManifestMeaning M) (new : NewParts) → m.«package» ≡ None → (told : Name → Told) →
    found_around (installed m new) told ≡ seen (with_found (installed m new) None)
found_nothing m new is told =
    let takes = ap (λ (o : Option (PackageMeaning _)). installed_if_there o new.«package») is in
    ap (λ (o : Option (PackageMeaning _)). found_for (installed m new) o told) takes
    ∙ ap (λ (o : Option (PackageMeaning _)). seen (with_found_for (installed m new) o None)) (sym takes)

-- where open paths have answers, what is found stays as it was, unless it was unclear
pub found_for-extends : {M : Type 0} (m : ManifestMeaning M) (o : Option (PackageMeaning M)) (told : Name → Told)
    (answers : Answers) → Ext (found_for m o told) (found_for m o (filled told answers))
found_for-extends m None told answers = inr refl
found_for-extends m (Some p) told answers = ext-as _ _ _ (ext-around told answers (wanted_by p))
