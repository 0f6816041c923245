-- The items that a call writes on an active stream: a block, or DATA.
use Rattle.h2_laws_machine.proofs.Names
use Names.{◌≡◌, suc, ◌+◌, ◌≤◌, ◌<◌, [], ◌∷◌, ◌-◌, refl, sym, ◌∙◌, Data, Item, Role, ends}
use Names.{ℕ, if◌then◌else◌, length-drop, length-take-le, increment_on, is_block_on, greatest_block}
use Names.{zero, ◌==◌, ◌||◌, Bool, true, List, ◌++◌, take, drop, None, arith, alone, block, total}
use Names.{nat_le, false, length, subst, ne_eqb, eq-eqb, Client, Server, data_on, data_of, openings}
use Names.{list_any, eqb-true, leb-false, one_ping, one_reset, data_frames, block_below, total_one}
use Rattle.std.proofs.Common.{append_assoc}
use Rattle.h2_laws_log.proofs.DataOfCalls.{takes_on, takes_of}
use Rattle.h2_laws_machine.proofs.OneItemMore.{total_quiet, any_quiet, own_quiet, settings_quiet}
use Rattle.h2_laws_machine.proofs.SentConnectionItems.{computing}
use Rattle.h2_laws_machine.proofs.SentQuietItems.{above_quiet}
use Rattle.h2_laws_machine.proofs.SentStreamItems.{Adds}

-- A test that passes only where another does adds nothing to it.
or_within : (a b : Bool) → (a ≡ true → b ≡ true) → (a || b) ≡ b
or_within true b goes = sym (goes refl)
or_within false b goes = refl

-- nothing more
or_none : (a b : Bool) → b ≡ false → (a || b) ≡ a
or_none true b is = refl
or_none false b is = is

-- A further block on a stream that was opened opens nothing.
block_blocks : (role : Role) (i id : ℕ) (end : Bool) (octets : List ℕ) (received sent : List Item)
    → list_any (is_block_on id) (openings role received sent) ≡ true
    → list_any (is_block_on i) (openings role received (block id end octets ∷ sent))
    ≡ list_any (is_block_on i) (openings role received sent)
unfolding is_block_on
block_blocks Client i id end octets received sent here =
    or_within (id == i) (list_any (is_block_on i) sent) (λ same. let equal : id ≡ i =
    eqb-true id i same in rw (← equal) here)
block_blocks Server i id end octets received sent here = refl

-- It has no greater number.
block_greatest : (role : Role) (id : ℕ) (end : Bool) (octets : List ℕ) (received sent : List Item)
    → list_any (is_block_on id) (openings role received sent) ≡ true
    → greatest_block (openings role received (block id end octets ∷ sent)) ≡ greatest_block
    (openings role received sent)
unfolding greatest_block
block_greatest Client id end octets received sent here = let below = block_below id sent here in
    omega arith
block_greatest Server id end octets received sent here = refl

-- DATA is no block.
data_blocks : (role : Role) (i id : ℕ) (end : Bool) (octets : List ℕ) (received sent : List Item)
    → list_any (is_block_on i) (openings role received (alone (Data id end octets None) ∷ sent))
    ≡ list_any (is_block_on i) (openings role received sent)
unfolding is_block_on
data_blocks Client i id end octets received sent = refl
data_blocks Server i id end octets received sent = refl

-- It has no number.
data_greatest : (role : Role) (id : ℕ) (end : Bool) (octets : List ℕ) (received sent : List Item)
    → greatest_block (openings role received (alone (Data id end octets None) ∷ sent))
    ≡ greatest_block (openings role received sent)
unfolding greatest_block
data_greatest Client id end octets received sent = refl
data_greatest Server id end octets received sent = refl

-- A block continues its stream.
pub adds_block : (role : Role) (received : List Item) (id : ℕ) (end : Bool) (octets : List ℕ)
    (sent : List Item)
    → list_any (is_block_on id) (openings role received sent) ≡ true
    → list_any (ends id) sent ≡ false
    → Adds role received id sent (block id end octets ∷ sent) 0 end
unfolding computing
adds_block role received id end octets sent here goes =
    let item = block id end octets in
    record {
      blocks = λ i. block_blocks role i id end octets received sent here;
      greatest = block_greatest role id end octets received sent here;
      above = λ i. above_quiet role i item sent refl;
      ends_other = λ i other. any_quiet (ends i) item sent
          (rw (ne_eqb id i (λ same. other (sym same))) refl);
      ends_here = or_none _ _ goes ∙ rw (eq-eqb id id refl) refl;
      resets = λ i. refl;
      data_other = λ i other. total_quiet (data_on i) item sent refl;
      data_here = total_one (data_on id) item sent;
      data_all = total_one data_of item sent;
      increments = λ i. total_quiet (increment_on i) item sent refl;
      own = λ k first count. own_quiet k first count item sent refl;
      settings = settings_quiet item sent refl;
      goaway = refl;
      last = refl;
      pings = total_quiet one_ping item sent refl;
      newest = refl;
      reset_count = total_quiet one_reset item sent refl;
    }

-- Nothing is written.
adds_none : (role : Role) (received : List Item) (id : ℕ) (sent : List Item)
    → list_any (ends id) sent ≡ false → Adds role received id sent sent 0 false
adds_none role received id sent goes =
    let here : total (data_on id) sent ≡ 0 + total (data_on id) sent = omega arith in
    let all : total data_of sent ≡ 0 + total data_of sent = omega arith in
    assumption (here, all)

-- One DATA more is written.
adds_data : (role : Role) (received : List Item) (id : ℕ) (end : Bool) (octets : List ℕ)
    (sent mid : List Item) (k : ℕ) → Adds role received id sent mid k false
    → Adds role received id sent (alone (Data id end octets None) ∷ mid) (length octets + k) end
unfolding computing
adds_data role received id end octets sent mid k a =
    let item = alone (Data id end octets None) in
    record {
      blocks = λ i. data_blocks role i id end octets received mid ∙ a.blocks i;
      greatest = data_greatest role id end octets received mid ∙ a.greatest;
      above = λ i. above_quiet role i item mid refl ∙ a.above i;
      ends_other = λ i other. any_quiet (ends i) item mid
          (rw (ne_eqb id i (λ same. other (sym same))) refl) ∙ a.ends_other i other;
      ends_here = or_none _ _ a.ends_here ∙ rw (eq-eqb id id refl) refl;
      resets = λ i. a.resets i;
      data_other = λ i other. total_quiet (data_on i) item mid
          (rw (ne_eqb id i (λ same. other (sym same))) refl) ∙ a.data_other i other;
      data_here = omega (arith, total_one, takes_on);
      data_all = omega (arith, total_one, takes_of);
      increments = λ i. total_quiet (increment_on i) item mid refl ∙ a.increments i;
      own = λ j first count. own_quiet j first count item mid refl ∙ a.own j first count;
      settings = settings_quiet item mid refl ∙ a.settings;
      goaway = a.goaway;
      last = a.last;
      pings = total_quiet one_ping item mid refl ∙ a.pings;
      newest = a.newest;
      reset_count = total_quiet one_reset item mid refl ∙ a.reset_count;
    }

-- The last DATA is written, or one and those that follow, by the test.
frames_by : (role : Role) (received : List Item) (id most : ℕ) (end : Bool) (octets : List ℕ)
    (sent mid after : List Item) (k : ℕ) (b : Bool)
    → nat_le (length octets) most ≡ b → Adds role received id sent mid k false
    → (most < length octets → Adds role received id sent
    (alone (Data id false (take most octets) None) ∷ mid) (length (take most octets) + k) false
    → Adds role received id sent (after ++ alone (Data id false (take most octets) None) ∷ mid)
    (length (drop most octets) + (length (take most octets) + k)) end)
    → Adds role received id sent
    ((if b then alone (Data id end octets None) ∷ [] else after ++ alone
    (Data id false (take most octets) None) ∷ []) ++ mid) (length octets + k) end
frames_by role received id most end octets sent mid after k true test a following =
    adds_data role received id end octets sent mid k a
frames_by role received id most end octets sent mid after k false test a following =
    let more = leb-false (length octets) most test in
    let all = following more (adds_data role received id false (take most octets) sent mid k a) in
    let front : length (take most octets) ≡ most = length-take-le most octets (omega arith) in
    let back : length (drop most octets) ≡ length octets - most = length-drop most octets in
    let sum : length (drop most octets) + (length (take most octets) + k) ≡ length octets + k =
    omega arith in
    rw append_assoc (subst (λ (n : ℕ). Adds role received id sent
    (after ++ alone (Data id false (take most octets) None) ∷ mid) n end) sum all)

-- The DATA of octets are written.
adds_frames : (count : ℕ) (role : Role) (received : List Item) (id most : ℕ) (end : Bool)
    (octets : List ℕ) (sent mid : List Item) (k : ℕ)
    → length octets < count → 1 ≤ most → Adds role received id sent mid k false
    → Adds role received id sent (data_frames count most id octets end ++ mid) (length octets + k)
    end
unfolding data_frames
adds_frames zero role received id most end octets sent mid k enough some a = absurd (omega arith)
adds_frames (suc count) role received id most end octets sent mid k enough some a =
    frames_by _ _ _ _ _ _ _ _ _ _ (nat_le (length octets) most) refl a
    (λ more front. adds_frames count role received id most end (drop most octets) sent
    (alone (Data id false (take most octets) None) ∷ mid)
    (length (take most octets) + k) (omega (arith, length-drop most octets)) some front)

-- The DATA of octets are newer than what was written.
pub adds_all : (count : ℕ) (role : Role) (received : List Item) (id most : ℕ) (end : Bool)
    (octets : List ℕ) (sent : List Item)
    → list_any (ends id) sent ≡ false → length octets < count → 1 ≤ most
    → Adds role received id sent (data_frames count most id octets end ++ sent) (length octets) end
adds_all count role received id most end octets sent goes enough some =
    let none : length octets + 0 ≡ length octets = omega arith in
    subst (λ (n : ℕ). Adds role received id sent (data_frames count most id octets end ++ sent) n
    end) none (adds_frames _ _ _ _ _ _ _ _ _ 0 enough some (adds_none role received id sent goes))
