-- Keys that are read into places, one after the other, each taken out of the table.
use Rattle.std.proofs.Common.{◌≡◌, ◌⊎◌, ◌∷◌, ◌++◌, [], ℕ, false, List, Option, Some, None, option_and_then, option_map, inl, inr, refl, subst, ap, ◌∙◌, map, string_bytes}
use Rattle.toml.specs.Data.{Data, Members, no_members, member, get_member}
use Rattle.toml.specs.View.{view, members_view}
use Rattle.toml.proofs.Views.{Entry}
use Rattle.cargo_toml_parts.specs.declared.error.Error.{Error}
use Rattle.cargo_toml_parts.specs.Reads.{Faulty, given_of, is_among, optional_of, others_read, required_of}
use Rattle.cargo_toml_parts.specs.Readings.{Goes, Loses, RequiredFault, kept_of, without}
use Rattle.cargo_toml_parts.proofs.Chain.{then, then_told, last, done, retold}
use Rattle.cargo_toml_parts.proofs.Taken.{stays, without_both}

-- some keys were read: what is left of the table, and that the whole is read where the rest is
pub record IsRead {M : Type 0} (gone : List (List ℕ)) (ms now : Members) (fault : Option Error) (rest : Option M) (others : Error → Type 0) (all : Option M) (blames : Error → Type 0) : Type 0 where
  pub left : fault ≡ None → now ≡ without gone ms
  pub whole : (c : Option Error) (r : M) → Goes fault c rest r others → Goes None c all r blames

without_none : (ms : Members) → ms ≡ without [] ms
without_none no_members = refl
without_none (member k d ms) = ap (member k d) (without_none ms)

pub begins : {M : Type 0} (ms : Members) (a : Option Error) (all : Option M) (blames : Error → Type 0) → a ≡ None → IsRead [] ms ms a all blames all blames
begins ms a all blames is = record { left = λ none. without_none ms; whole = λ c r goes. subst (λ (x : Option Error). Goes x c all r blames) is goes }

-- with no fault after a key there was none before
earlier : {M : Type 0} (a b : Option Error) (o : Option M) (m : M) (blames : Error → Type 0) → Goes a b o m blames → b ≡ None → a ≡ None
earlier a None o m blames goes none = goes.0
earlier a (Some e) o m blames goes none = absurd cc

less : (gone : List (List ℕ)) (key : List ℕ) (ms old new : Members) (a : Option Error) → (a ≡ None → old ≡ without gone ms) → Loses a key old new → a ≡ None → new ≡ without (gone ++ (key ∷ [])) ms
less gone key ms old new None left loses none = loses ∙ ap (without (key ∷ [])) (left refl) ∙ without_both gone (key ∷ []) ms
less gone key ms old new (Some e) left loses none = absurd cc

-- what was read of what is left is what the whole table gives; after a fault nothing was
as_whole : {X M : Type 0} (given : X → Option M) (blames : X → Error → Type 0) (x y : X) (a b : Option Error) (m : M) → (a ≡ None → x ≡ y) → Goes a b (given x) m (blames x) → Goes a b (given y) m (blames y)
as_whole given blames x y None b m same goes = subst (λ z. Goes None b (given z) m (blames z)) (same refl) goes
as_whole given blames x y (Some d) None m same goes = absurd cc
as_whole given blames x y (Some d) (Some e) m same (inl is) = inl is
as_whole given blames x y (Some d) (Some e) m same (inr (none, fault)) = absurd cc

module _ {M A : Type 0} {gone : List (List ℕ)} {ms old : Members} {a : Option Error} {rest all : Option M} {joined blames : Error → Type 0} where
  at_key : (key : List ℕ) (given : Option Data → Option A) (faults : Option Data → Error → Type 0) (b : Option Error) (m : A) → IsRead gone ms old a rest joined all blames → is_among gone key ≡ false
      → Goes a b (given (get_member key old)) m (faults (get_member key old)) → Goes a b (given (get_member key ms)) m (faults (get_member key ms))
  at_key key given faults b m so_far apart goes = as_whole given faults (get_member key old) (get_member key ms) a b m (λ none. ap (get_member key) (so_far.left none) ∙ stays gone key ms apart) goes

  step : (key : List ℕ) (given : Option Data → Option A) (faults : Option Data → Error → Type 0) (b : Option Error) (m : A) (new : Members) (next : Option M) (others : Error → Type 0)
      → IsRead gone ms old a rest joined all blames → is_among gone key ≡ false → Goes a b (given (get_member key old)) m (faults (get_member key old)) → Loses a key old new
      → ((c : Option Error) (r : M) → Goes a b (given (get_member key ms)) m (faults (get_member key ms)) → Goes b c next r others → Goes a c rest r joined)
      → IsRead (gone ++ (key ∷ [])) ms new b next others all blames
  step key given faults b m new next others so_far apart goes loses joins = record {
    left = λ none. less gone key ms old new a so_far.left loses (earlier a b (given (get_member key old)) m (faults (get_member key old)) goes none);
    whole = λ c r then_goes. so_far.whole c r (joins c r (at_key key given faults b m so_far apart goes) then_goes);
  }

-- a key that has a value where it is missing, one that may be missing, and one that must be there
missing_is : {M : Type 0} (a b : Option Error) (reads : Data → Option M) (held missing : M) (o : Option Data) (m : M) (faults : Error → Type 0) → held ≡ missing → Goes a b (given_of reads held o) m faults → Goes a b (given_of reads missing o) m faults
missing_is a b reads held missing o m faults is goes = subst (λ h. Goes a b (given_of reads h o) m faults) is goes

kept-none : {M : Type 0} (reads : Data → Option M) (held : Option M) (o : Option Data) → held ≡ None → kept_of reads held o ≡ optional_of reads o
kept-none reads held None is = rw is refl
kept-none reads held (Some d) is = refl

none_held : {M : Type 0} (a b : Option Error) (reads : Data → Option M) (held : Option M) (o : Option Data) (m : Option M) (faults : Error → Type 0) → held ≡ None → Goes a b (kept_of reads held o) m faults → Goes a b (optional_of reads o) m faults
none_held a b reads held o m faults is goes = subst (λ h. Goes a b h m faults) (kept-none reads held o is) goes

module _ {M A : Type 0} {gone : List (List ℕ)} {ms old : Members} {a : Option Error} {all : Option M} {blames : Error → Type 0} (key : List ℕ) (reads : Data → Option A) where
  pub takes : (held missing : A) (refuses : Data → Error → Type 0) (f : A → Option M) (others : Error → Type 0) (new : Members) (b : Option Error) (m : A)
      → IsRead gone ms old a (option_and_then f (given_of reads missing (get_member key ms))) (λ e. Faulty reads refuses (get_member key ms) e ⊎ others e) all blames
      → is_among gone key ≡ false → held ≡ missing → Goes a b (given_of reads held (get_member key old)) m (Faulty reads refuses (get_member key old)) → Loses a key old new
      → IsRead (gone ++ (key ∷ [])) ms new b (f m) others all blames
  takes held missing refuses f others new b m so_far apart is goes loses =
      step key (given_of reads missing) (Faulty reads refuses) b m new (f m) others so_far apart (missing_is a b reads held missing (get_member key old) m (Faulty reads refuses (get_member key old)) is goes) loses
      (λ c r. then a b c (given_of reads missing (get_member key ms)) f m r (Faulty reads refuses (get_member key ms)) others)

  pub takes_optional : (held : Option A) (refuses : Data → Error → Type 0) (f : Option A → Option M) (others : Error → Type 0) (new : Members) (b : Option Error) (m : Option A)
      → IsRead gone ms old a (option_and_then f (optional_of reads (get_member key ms))) (λ e. Faulty reads refuses (get_member key ms) e ⊎ others e) all blames
      → is_among gone key ≡ false → held ≡ None → Goes a b (kept_of reads held (get_member key old)) m (Faulty reads refuses (get_member key old)) → Loses a key old new
      → IsRead (gone ++ (key ∷ [])) ms new b (f m) others all blames
  takes_optional held refuses f others new b m so_far apart is goes loses =
      step key (optional_of reads) (Faulty reads refuses) b m new (f m) others so_far apart (none_held a b reads held (get_member key old) m (Faulty reads refuses (get_member key old)) is goes) loses
      (λ c r. then a b c (optional_of reads (get_member key ms)) f m r (Faulty reads refuses (get_member key ms)) others)

  pub takes_required : (refuses : Data → Error → Type 0) (f : A → Option M) (others : Error → Type 0) (new : Members) (b : Option Error) (m : A)
      → IsRead gone ms old a (option_and_then f (required_of reads (get_member key ms))) (λ e. RequiredFault reads refuses (get_member key ms) e ⊎ others e) all blames
      → is_among gone key ≡ false → Goes a b (required_of reads (get_member key old)) m (RequiredFault reads refuses (get_member key old)) → Loses a key old new
      → IsRead (gone ++ (key ∷ [])) ms new b (f m) others all blames
  takes_required refuses f others new b m so_far apart goes loses =
      step key (required_of reads) (RequiredFault reads refuses) b m new (f m) others so_far apart goes loses
      (λ c r. then a b c (required_of reads (get_member key ms)) f m r (RequiredFault reads refuses (get_member key ms)) others)

  -- the last key
  pub takes_last : (held missing : A) (refuses : Data → Error → Type 0) (f : A → Option M) (b : Option Error) (m : A) (r : M)
      → IsRead gone ms old a (option_and_then f (given_of reads missing (get_member key ms))) (Faulty reads refuses (get_member key ms)) all blames
      → is_among gone key ≡ false → held ≡ missing → Goes a b (given_of reads held (get_member key old)) m (Faulty reads refuses (get_member key old)) → f m ≡ Some r
      → Goes None b all r blames
  takes_last held missing refuses f b m r so_far apart is goes ends =
      so_far.whole b r (last a b (given_of reads missing (get_member key ms)) f m r (Faulty reads refuses (get_member key ms))
      (at_key key (given_of reads missing) (Faulty reads refuses) b m so_far apart (missing_is a b reads held missing (get_member key old) m (Faulty reads refuses (get_member key old)) is goes)) ends)

  pub takes_last_optional : (held : Option A) (refuses : Data → Error → Type 0) (f : Option A → Option M) (b : Option Error) (m : Option A) (r : M)
      → IsRead gone ms old a (option_and_then f (optional_of reads (get_member key ms))) (Faulty reads refuses (get_member key ms)) all blames
      → is_among gone key ≡ false → held ≡ None → Goes a b (kept_of reads held (get_member key old)) m (Faulty reads refuses (get_member key old)) → f m ≡ Some r
      → Goes None b all r blames
  takes_last_optional held refuses f b m r so_far apart is goes ends =
      so_far.whole b r (last a b (optional_of reads (get_member key ms)) f m r (Faulty reads refuses (get_member key ms))
      (at_key key (optional_of reads) (Faulty reads refuses) b m so_far apart (none_held a b reads held (get_member key old) m (Faulty reads refuses (get_member key old)) is goes)) ends)

-- the same where the faults of all keys are told in one way
module _ {M A : Type 0} {gone : List (List ℕ)} {ms old : Members} {a : Option Error} {all : Option M} {one blames : Error → Type 0} (key : List ℕ) (reads : Data → Option A) where
  pub told : (held missing : A) (refuses : Data → Error → Type 0) (f : A → Option M) (new : Members) (b : Option Error) (m : A)
      → IsRead gone ms old a (option_and_then f (given_of reads missing (get_member key ms))) one all blames → is_among gone key ≡ false → held ≡ missing → ((e : Error) → Faulty reads refuses (get_member key ms) e → one e)
      → Goes a b (given_of reads held (get_member key old)) m (Faulty reads refuses (get_member key old)) → Loses a key old new → IsRead (gone ++ (key ∷ [])) ms new b (f m) one all blames
  told held missing refuses f new b m so_far apart is tells goes loses =
      step key (given_of reads missing) (Faulty reads refuses) b m new (f m) one so_far apart (missing_is a b reads held missing (get_member key old) m (Faulty reads refuses (get_member key old)) is goes) loses
      (λ c r. then_told a b c (given_of reads missing (get_member key ms)) f m r (Faulty reads refuses (get_member key ms)) one tells)

  pub told_optional : (held : Option A) (refuses : Data → Error → Type 0) (f : Option A → Option M) (new : Members) (b : Option Error) (m : Option A)
      → IsRead gone ms old a (option_and_then f (optional_of reads (get_member key ms))) one all blames → is_among gone key ≡ false → held ≡ None → ((e : Error) → Faulty reads refuses (get_member key ms) e → one e)
      → Goes a b (kept_of reads held (get_member key old)) m (Faulty reads refuses (get_member key old)) → Loses a key old new → IsRead (gone ++ (key ∷ [])) ms new b (f m) one all blames
  told_optional held refuses f new b m so_far apart is tells goes loses =
      step key (optional_of reads) (Faulty reads refuses) b m new (f m) one so_far apart (none_held a b reads held (get_member key old) m (Faulty reads refuses (get_member key old)) is goes) loses
      (λ c r. then_told a b c (optional_of reads (get_member key ms)) f m r (Faulty reads refuses (get_member key ms)) one tells)

  pub told_required : (refuses : Data → Error → Type 0) (f : A → Option M) (new : Members) (b : Option Error) (m : A)
      → IsRead gone ms old a (option_and_then f (required_of reads (get_member key ms))) one all blames → is_among gone key ≡ false → ((e : Error) → RequiredFault reads refuses (get_member key ms) e → one e)
      → Goes a b (required_of reads (get_member key old)) m (RequiredFault reads refuses (get_member key old)) → Loses a key old new → IsRead (gone ++ (key ∷ [])) ms new b (f m) one all blames
  told_required refuses f new b m so_far apart tells goes loses =
      step key (required_of reads) (RequiredFault reads refuses) b m new (f m) one so_far apart goes loses
      (λ c r. then_told a b c (required_of reads (get_member key ms)) f m r (RequiredFault reads refuses (get_member key ms)) one tells)

-- what was read of what is left
module _ {M A : Type 0} {gone : List (List ℕ)} {ms old : Members} {a : Option Error} {all : Option M} {one blames : Error → Type 0} where
  left_goes : (given : Members → Option A) (faults : Members → Error → Type 0) (o : Option A) (rest : Option M) (b : Option Error) (m : A) → IsRead gone ms old a rest one all blames
      → given (without gone ms) ≡ o → ((e : Error) → faults (without gone ms) e → one e) → Goes a b (given old) m (faults old) → Goes a b o m one
  left_goes given faults o rest b m so_far is tells goes =
      retold a b o m (faults (without gone ms)) one tells (subst (λ g. Goes a b g m (faults (without gone ms))) is (as_whole given faults old (without gone ms) a b m so_far.left goes))

  pub reads_left : (given : Members → Option A) (faults : Members → Error → Type 0) (o : Option A) (f : A → Option M) (b : Option Error) (m : A)
      → IsRead gone ms old a (option_and_then f o) one all blames → given (without gone ms) ≡ o → ((e : Error) → faults (without gone ms) e → one e) → Goes a b (given old) m (faults old) → IsRead gone ms old b (f m) one all blames
  reads_left given faults o f b m so_far is tells goes = record {
    left = λ none. so_far.left (earlier a b (given old) m (faults old) goes none);
    whole = λ c r rest. so_far.whole c r (then_told a b c o f m r one one (λ e h. h) (left_goes given faults o (option_and_then f o) b m so_far is tells goes) rest);
  }

  pub ends_left : (given : Members → Option A) (faults : Members → Error → Type 0) (o : Option A) (f : A → Option M) (b : Option Error) (m : A) (r : M)
      → IsRead gone ms old a (option_and_then f o) one all blames → given (without gone ms) ≡ o → ((e : Error) → faults (without gone ms) e → one e) → Goes a b (given old) m (faults old) → f m ≡ Some r → Goes None b all r blames
  ends_left given faults o f b m r so_far is tells goes ends = so_far.whole b r (last a b o f m r one (left_goes given faults o (option_and_then f o) b m so_far is tells goes) ends)

pub ends_told : {M : Type 0} {gone : List (List ℕ)} {ms old : Members} {a : Option Error} {all : Option M} {one blames : Error → Type 0} (r : M) → IsRead gone ms old a (Some r) one all blames → Goes None a all r blames
ends_told {a = a} {one = one} r so_far = so_far.whole a r (done a r one)

-- what means none in one way means none in another
pub means_none : {X L M : Type 0} (f : X → L) (g : X → M) (o : Option X) → option_map f o ≡ None → option_map g o ≡ None
means_none f g None is = refl
means_none f g (Some x) is = absurd cc

-- what a place holds is what its option holds
pub held_in : {A : Type 0} (x y : A) → Some x ≡ Some y → y ≡ x
held_in x y is = cc

-- what is left of a table once all keys that are known were taken out of it: the whole rest, which is known without reading
pub all_left : (es : List Entry) → others_read [] Some (members_view es) ≡ Some (map (λ e. (string_bytes e.0, view e.1)) es)
all_left [] = refl
all_left (e ∷ es) = rw (all_left es) refl

pub known : {M : Type 0} (a : Option Error) (o : Option M) (m : M) (blames : Error → Type 0) → o ≡ Some m → Goes a a o m blames
known None o m blames h = (refl, h)
known (Some e) o m blames h = inl refl
