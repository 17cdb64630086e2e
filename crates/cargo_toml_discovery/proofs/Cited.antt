-- The names that proofs of this crate cite of definitions and of other libraries. Declares nothing.
pub use Rattle.cargo_toml_discovery.specs.Answers.{Answers, answer_at, answers_of, around_in, below, named_in, names_in, texts_in}
pub use Rattle.cargo_toml_discovery.specs.Discovering.{StatedMeaning, at_library, build_in, discovered, filled_library, first_in, library, listed_products, main_of, main_offer, may_build, or_plain_library, readme_in, readme_names, restated}
pub use Rattle.cargo_toml_discovery.specs.Disk.{IsEntryFault, IsInput, IsListingFault, IsListingInput, SaysAbsent}
pub use Rattle.cargo_toml_discovery.specs.Found.{Named, Offered, all_found, found, has_offer, has_path, is_path_of, is_text, last_product, last_waiting, late_taker, offer_of, offers, open_offer, product_among, product_for, still_open, taker, waits_for, waits_or}
pub use Rattle.cargo_toml_discovery.specs.Names.{Name, has_text, is_source, ordered, put_in, stem, stripped, underscored, with_endings, without_ending}
pub use Rattle.cargo_toml_discovery.specs.Sorting.{in_order, insert_by, product_lt, sorted_by}
pub use Rattle.cargo_toml_discovery.specs.Walk.{NamesAscend, all_named, is_path_in, named_of, offer_parts, waiting_in, walk, walked, with_extra, without}
pub use Rattle.cargo_toml_parts.proofs.SameCopies.{IsOptionCopy, option_same, zip_same}
pub use Rattle.cargo_toml_parts.specs.FaultValues.{Fault, fault_of, fault_step, io, memory}
pub use Rattle.cargo_toml_parts.specs.Settings.{File, flag, path}
pub use Rattle.cargo_toml_parts.specs.declared.error.Error.{Error, Io, Memory, fold-roll-Error, fold_out-Error, map-Error, out-Error, roll-Error, roll-out-Error}
pub use Rattle.std.proofs.Common.{Bool, List, None, Option, Some, String, [], add-one, ap, append-nil, append_assoc, arith, codes, cond, drop, drop-cons, false, filter, get_or, inl, inr, is_some, length, length-take, map, map-id, nat_eq, not, option_to_list, refl, rules, string_bytes, subst, suc, sym, take, take-append-drop, true, unwrap_or, zero, ℕ, ◌&&◌, ◌++◌, ◌+◌, ◌-◌, ◌<◌, ◌||◌, ◌∙◌, ◌∷◌, ◌≡◌, ◌≤◌, ◌⊎◌}
pub use Rattle.std.proofs.Math.Bool.{and-false, and-true, or-false, or_comm}
pub use Rattle.std.proofs.lemmas.Bool.{ne_eqb, or_left, or_right}
pub use Rattle.std.proofs.lemmas.List.{append_cancel_left, map-append, map_push, take_more}
pub use Rattle.std.proofs.lemmas.Result.{IfOk-weaker, MatchResult-weaker, on_ok_weaker}
pub use Rattle.std.specs.BTreeSet.{BTreeSet, IsFromIterResult, IsOrdered, contains_text}
pub use Rattle.std.specs.Cmp.{IsStrictWeakOrder, on_total, then_total}
pub use Rattle.std.specs.Cmp.Lexicographic.{nat_list_cmp_total, options_total, slice_cmp}
pub use Rattle.std.specs.List.{AllByRecursion, cons_option, filter_map, list_any}
pub use Rattle.std.specs.List.Sorted.{IsSortedBy, IsStableBy, ties}
pub use Rattle.std.specs.Option.{option_copied, option_map, option_or}
pub use Rattle.std.specs.Ordering.{is_eq, is_lt, match_ordering, nat_cmp}
pub use Rattle.std.specs.Str.Pattern.{CutsSuffixes, FindsChar, FindsTextSuffix, HasCharAt, IsFullyTrimmed, IsTrimEndMatches}
pub use Rattle.std.specs.declared.cmp.Ordering.TheVariants.{Equal, Greater, Less}
pub use Rattle.std.specs.declared.io.ErrorKind.TheVariants.{NotADirectory, NotFound, OutOfMemory}
pub use Rattle.cargo_toml_discovery.{specs.Around.Around, specs.declared.listings.Entry.Entry}
pub use Rattle.cargo_toml_parts.{specs.Faults.IsFromIo, specs.Products.ProductMeaning, specs.Products.product_meaning, specs.declared.error.Error.TheOpen.Error-F, specs.declared.error.Error.TheVariants.rolls-Io, specs.declared.error.Error.TheVariants.rolls-Memory, specs.declared.error.ParseFault.TheVariants.Shape}
pub use Rattle.cargo_toml_parts.{specs.declared.error.ParseFault.TheVariants.Toml, specs.declared.settings.Edition.Edition}
pub use Rattle.std.{proofs.lemmas.Iterator.items_from_drains, proofs.lemmas.Iterator.Consumers.YieldsList-from_rest, proofs.lemmas.List.Folds.list_any-append, proofs.lemmas.List.MinMax.ranks_by, proofs.lemmas.List.Sorted.answers_always, proofs.lemmas.List.Sorted.sorted_far, proofs.lemmas.Map.Iter.rest_all}
pub use Rattle.std.{proofs.lemmas.Map.Lookups.btree_set_from_contains, proofs.lemmas.Map.Lookups.exact_bytes, proofs.lemmas.Map.Text.btree_map_updates_str, proofs.lemmas.Map.Text.is_eq-slice_cmp, proofs.lemmas.Slice.Eq.bytes_eq-Decides, proofs.lemmas.Str.len_utf8_ascii, proofs.lemmas.Str.Pattern.NoCharPasses-char}
pub use Rattle.std.{proofs.lemmas.Str.Pattern.drop_at_char, specs.BTreeMap.get_by, specs.BTreeMap.is_at, specs.HashSet.HashSet, specs.IoError.error_kind, specs.Map.lookup, specs.Map.Iter.deref, specs.Str.NoCharPasses, specs.Str.bytes_eq, specs.Str.Iter.IsCharPattern, specs.Str.Replace.ReplacesMatches}
pub use Rattle.std.{specs.String.string_cmp, specs.contracts.io.ErrorKind.the_type, specs.declared.alloc.Global.Global, specs.declared.cmp.Ordering.Ordering, specs.declared.io.ErrorKind.ErrorKind}
pub use denote.Enum.{Bare.sameb}
pub use denote.Ref.{Bor}
unfoldable pub use Rattle.std.specs.List.Sorted.{IsStrictlySortedBy}
