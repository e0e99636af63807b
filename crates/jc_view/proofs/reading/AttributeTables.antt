-- The tables of exceptions and of bootstrap methods that are read are those that were spelled.
use Rattle.std.proofs.Common.{◌≡◌, ℕ, List, ◌++◌, drop, Some, option_and_then, sym, ap, subst, ◌∙◌, append_assoc}
use Rattle.std.proofs.lemmas.List.{drop_at}
use Rattle.jc_base.specs.Endian.{big_bytes, big_number}
use Rattle.jc_view.specs.declared.constant_pool.ConstantIndex.{ConstantIndex}
use Rattle.jc_view.specs.ConstantPool.{index_bytes, IsIndex, index_value}
use Rattle.jc_view.specs.ClassFile.{counted, FitsTable}
use Rattle.jc_view.specs.Reading.{after, after_table, table_value, after_indexes}
use Rattle.jc_view.specs.Attributes.{Bootstrap, bootstrap_bytes, FitsBootstrap, AreExceptionsOf, AreBootstrapsOf}
use Rattle.jc_view.specs.AttributeReading.{after_bootstrap, bootstrap_value, exceptions_in, bootstraps_in}
use Rattle.jc_view.proofs.reading.BigEndian.{IsBytes, width2, after_some, then_some, after_text, number_again, Takes, Takes-then, takes_number, length-big_bytes}
use Rattle.jc_view.proofs.reading.Tables.{Reads, reads_table, reads_indexes}
use Rattle.jc_view.proofs.reading.Codes.{whole_is, is_whole}

abbrev indexes_in : List ℕ → List ConstantIndex
indexes_in xs = table_value (after 2) index_value xs

bootstrap_takes : (xs rest : List ℕ) → IsBytes xs → after_bootstrap xs ≡ Some rest → Takes xs (bootstrap_bytes (bootstrap_value xs)) rest × FitsBootstrap (bootstrap_value xs)
unfolding after_bootstrap
bootstrap_takes xs rest fits e =
    let b = then_some (after 2 xs) after_indexes rest e in
    let here : drop 2 xs ≡ b.0 = (after_some 2 xs b.0 b.1).left in
    let method = takes_number 2 width2 xs b.0 fits b.1 in
    let table = reads_indexes.takes b.0 rest method.0.rest_fits b.2 in
    let first = big_bytes 2 (big_number 2 xs) in
    let all : Takes xs (first ++ counted index_bytes (indexes_in b.0)) rest = Takes-then xs first b.0 (counted index_bytes (indexes_in b.0)) rest method.0 table.0 in (
      subst (λ (ys : List ℕ). Takes xs (first ++ counted index_bytes (indexes_in ys)) rest) (sym here) all,
      record { method = method.1; arguments = subst (λ (ys : List ℕ). FitsTable IsIndex (indexes_in ys)) (sym here) table.1 },
    )

bootstrap_is : {a b : ℕ} {c d : List ConstantIndex} → a ≡ b → c ≡ d → ◌≡◌ {A = Bootstrap} (record { method = record { 0 = a }; arguments = c }) (record { method = record { 0 = b }; arguments = d })
bootstrap_is e f i = record { method = record { 0 = e i }; arguments = f i }

bootstrap_again : (m : Bootstrap) (rest : List ℕ) → FitsBootstrap m → (after_bootstrap (bootstrap_bytes m ++ rest) ≡ Some rest) × (bootstrap_value (bootstrap_bytes m ++ rest) ≡ m)
unfolding after_bootstrap
bootstrap_again m rest fits =
    let n = m.method.0 in
    let behind = counted index_bytes m.arguments ++ rest in
    let regrouped : bootstrap_bytes m ++ rest ≡ big_bytes 2 n ++ behind = append_assoc (big_bytes 2 n) (counted index_bytes m.arguments) rest in
    let table = reads_indexes.again m.arguments rest fits.arguments in
    let head : after 2 (big_bytes 2 n ++ behind) ≡ Some behind = after_text (big_bytes 2 n) behind 2 (length-big_bytes 2 n) in
    let arguments : indexes_in (drop 2 (big_bytes 2 n ++ behind)) ≡ m.arguments = ap indexes_in (drop_at (big_bytes 2 n) behind 2 (length-big_bytes 2 n)) ∙ table.1 in (
      ap (λ (t : List ℕ). option_and_then after_indexes (after 2 t)) regrouped ∙ ap (option_and_then after_indexes) head ∙ table.0,
      ap bootstrap_value regrouped ∙ bootstrap_is (number_again 2 n behind fits.method) arguments,
    )

reads_bootstrap : Reads bootstrap_bytes FitsBootstrap after_bootstrap bootstrap_value
reads_bootstrap = record { takes = bootstrap_takes; again = bootstrap_again }

pub exceptions_read_are : (b : List ℕ) (exceptions : List ConstantIndex) → IsBytes b → exceptions_in b ≡ Some exceptions → AreExceptionsOf b exceptions
exceptions_read_are b exceptions fits e =
    let are = whole_is (counted index_bytes) (FitsTable IsIndex) after_indexes indexes_in reads_indexes b exceptions fits e in record { fits = are.0; bytes = are.1 }

pub exceptions_are_read : (b : List ℕ) (exceptions : List ConstantIndex) → AreExceptionsOf b exceptions → exceptions_in b ≡ Some exceptions
exceptions_are_read b exceptions are = is_whole (counted index_bytes) (FitsTable IsIndex) after_indexes indexes_in reads_indexes b exceptions are.fits are.bytes

abbrev bootstraps_of : List ℕ → List Bootstrap
bootstraps_of xs = table_value after_bootstrap bootstrap_value xs

pub bootstraps_read_are : (b : List ℕ) (methods : List Bootstrap) → IsBytes b → bootstraps_in b ≡ Some methods → AreBootstrapsOf b methods
bootstraps_read_are b methods fits e =
    let are = whole_is (counted bootstrap_bytes) (FitsTable FitsBootstrap) (after_table after_bootstrap) bootstraps_of (reads_table reads_bootstrap) b methods fits e in record { fits = are.0; bytes = are.1 }

pub bootstraps_are_read : (b : List ℕ) (methods : List Bootstrap) → AreBootstrapsOf b methods → bootstraps_in b ≡ Some methods
bootstraps_are_read b methods are = is_whole (counted bootstrap_bytes) (FitsTable FitsBootstrap) (after_table after_bootstrap) bootstraps_of (reads_table reads_bootstrap) b methods are.fits are.bytes
