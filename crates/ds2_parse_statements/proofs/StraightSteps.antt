-- Straight rules of more parts, one behind the other.
use Rattle.std.proofs.Common.{◌≡◌, List, refl}
use Rattle.ds2_base.specs.declared.place.Place.{Place}
use Rattle.ds2_base.specs.declared.place.Refusal.{Refusal}
use Rattle.ds2_base.specs.declared.stop.Stop.{Stop}
use Rattle.ds2_token.specs.declared.token.Token.{Token}
use Rattle.ds2_tree.specs.declared.kind.ParseKind.{ParseKind}
use Rattle.ds2_tree.specs.Parsers.{Read, Parser, to, seq}
use Rattle.ds2_tree.specs.Promise.{Fails}
use Rattle.ds2_parse_rules.proofs.RuleSteps.{held, on_read, on_stop, on_last, on_last_stop}

-- four parts
module _ {A B D E C : Type 0} (f : A × (B × (D × (E))) → C) (p1 : Parser A) (p2 : Parser B) (p3 : Parser D) (p4 : Parser E) (ts : List Token) where
  pub stops_2_of_4 : (x1 : A) (r1 : List Token) → p1 ts ≡ Read x1 r1 → (end : Place) (e : Stop (Refusal ParseKind)) → Fails end e (p2 r1) → Fails end e (to f (seq p1 (seq p2 (seq p3 p4))) ts)
  stops_2_of_4 x1 r1 h1 end e h = held (Fails end e) f (seq p1 (seq p2 (seq p3 p4))) ts (on_read p1 (seq p2 (seq p3 p4)) h1 (on_stop p2 (seq p3 p4) end e h))

  pub stops_3_of_4 : (x1 : A) (r1 : List Token) → p1 ts ≡ Read x1 r1 → (x2 : B) (r2 : List Token) → p2 r1 ≡ Read x2 r2 → (end : Place) (e : Stop (Refusal ParseKind)) → Fails end e (p3 r2) → Fails end e (to f (seq p1 (seq p2 (seq p3 p4))) ts)
  stops_3_of_4 x1 r1 h1 x2 r2 h2 end e h = held (Fails end e) f (seq p1 (seq p2 (seq p3 p4))) ts (on_read p1 (seq p2 (seq p3 p4)) h1 (on_read p2 (seq p3 p4) h2 (on_stop p3 p4 end e h)))

  pub stops_4_of_4 : (x1 : A) (r1 : List Token) → p1 ts ≡ Read x1 r1 → (x2 : B) (r2 : List Token) → p2 r1 ≡ Read x2 r2 → (x3 : D) (r3 : List Token) → p3 r2 ≡ Read x3 r3 → (end : Place) (e : Stop (Refusal ParseKind)) → Fails end e (p4 r3) → Fails end e (to f (seq p1 (seq p2 (seq p3 p4))) ts)
  stops_4_of_4 x1 r1 h1 x2 r2 h2 x3 r3 h3 end e h = held (Fails end e) f (seq p1 (seq p2 (seq p3 p4))) ts (on_read p1 (seq p2 (seq p3 p4)) h1 (on_read p2 (seq p3 p4) h2 (on_read p3 p4 h3 (on_last_stop end e h))))

  pub read_4 : (x1 : A) (r1 : List Token) → p1 ts ≡ Read x1 r1 → (x2 : B) (r2 : List Token) → p2 r1 ≡ Read x2 r2 → (x3 : D) (r3 : List Token) → p3 r2 ≡ Read x3 r3 → (x4 : E) (r4 : List Token) → p4 r3 ≡ Read x4 r4 → to f (seq p1 (seq p2 (seq p3 p4))) ts ≡ Read (f (x1, (x2, (x3, x4)))) r4
  read_4 x1 r1 h1 x2 r2 h2 x3 r3 h3 x4 r4 h4 = held (λ o. o ≡ Read (f (x1, (x2, (x3, x4)))) r4) f (seq p1 (seq p2 (seq p3 p4))) ts (on_read p1 (seq p2 (seq p3 p4)) h1 (on_read p2 (seq p3 p4) h2 (on_read p3 p4 h3 (on_last h4 refl))))

-- five parts
module _ {A B D E F C : Type 0} (f : A × (B × (D × (E × (F)))) → C) (p1 : Parser A) (p2 : Parser B) (p3 : Parser D) (p4 : Parser E) (p5 : Parser F) (ts : List Token) where
  pub stops_2_of_5 : (x1 : A) (r1 : List Token) → p1 ts ≡ Read x1 r1 → (end : Place) (e : Stop (Refusal ParseKind)) → Fails end e (p2 r1) → Fails end e (to f (seq p1 (seq p2 (seq p3 (seq p4 p5)))) ts)
  stops_2_of_5 x1 r1 h1 end e h = held (Fails end e) f (seq p1 (seq p2 (seq p3 (seq p4 p5)))) ts (on_read p1 (seq p2 (seq p3 (seq p4 p5))) h1 (on_stop p2 (seq p3 (seq p4 p5)) end e h))

  pub stops_3_of_5 : (x1 : A) (r1 : List Token) → p1 ts ≡ Read x1 r1 → (x2 : B) (r2 : List Token) → p2 r1 ≡ Read x2 r2 → (end : Place) (e : Stop (Refusal ParseKind)) → Fails end e (p3 r2) → Fails end e (to f (seq p1 (seq p2 (seq p3 (seq p4 p5)))) ts)
  stops_3_of_5 x1 r1 h1 x2 r2 h2 end e h = held (Fails end e) f (seq p1 (seq p2 (seq p3 (seq p4 p5)))) ts (on_read p1 (seq p2 (seq p3 (seq p4 p5))) h1 (on_read p2 (seq p3 (seq p4 p5)) h2 (on_stop p3 (seq p4 p5) end e h)))

  pub stops_4_of_5 : (x1 : A) (r1 : List Token) → p1 ts ≡ Read x1 r1 → (x2 : B) (r2 : List Token) → p2 r1 ≡ Read x2 r2 → (x3 : D) (r3 : List Token) → p3 r2 ≡ Read x3 r3 → (end : Place) (e : Stop (Refusal ParseKind)) → Fails end e (p4 r3) → Fails end e (to f (seq p1 (seq p2 (seq p3 (seq p4 p5)))) ts)
  stops_4_of_5 x1 r1 h1 x2 r2 h2 x3 r3 h3 end e h = held (Fails end e) f (seq p1 (seq p2 (seq p3 (seq p4 p5)))) ts (on_read p1 (seq p2 (seq p3 (seq p4 p5))) h1 (on_read p2 (seq p3 (seq p4 p5)) h2 (on_read p3 (seq p4 p5) h3 (on_stop p4 p5 end e h))))

  pub stops_5_of_5 : (x1 : A) (r1 : List Token) → p1 ts ≡ Read x1 r1 → (x2 : B) (r2 : List Token) → p2 r1 ≡ Read x2 r2 → (x3 : D) (r3 : List Token) → p3 r2 ≡ Read x3 r3 → (x4 : E) (r4 : List Token) → p4 r3 ≡ Read x4 r4 → (end : Place) (e : Stop (Refusal ParseKind)) → Fails end e (p5 r4) → Fails end e (to f (seq p1 (seq p2 (seq p3 (seq p4 p5)))) ts)
  stops_5_of_5 x1 r1 h1 x2 r2 h2 x3 r3 h3 x4 r4 h4 end e h = held (Fails end e) f (seq p1 (seq p2 (seq p3 (seq p4 p5)))) ts (on_read p1 (seq p2 (seq p3 (seq p4 p5))) h1 (on_read p2 (seq p3 (seq p4 p5)) h2 (on_read p3 (seq p4 p5) h3 (on_read p4 p5 h4 (on_last_stop end e h)))))

  pub read_5 : (x1 : A) (r1 : List Token) → p1 ts ≡ Read x1 r1 → (x2 : B) (r2 : List Token) → p2 r1 ≡ Read x2 r2 → (x3 : D) (r3 : List Token) → p3 r2 ≡ Read x3 r3 → (x4 : E) (r4 : List Token) → p4 r3 ≡ Read x4 r4 → (x5 : F) (r5 : List Token) → p5 r4 ≡ Read x5 r5 → to f (seq p1 (seq p2 (seq p3 (seq p4 p5)))) ts ≡ Read (f (x1, (x2, (x3, (x4, x5))))) r5
  read_5 x1 r1 h1 x2 r2 h2 x3 r3 h3 x4 r4 h4 x5 r5 h5 = held (λ o. o ≡ Read (f (x1, (x2, (x3, (x4, x5))))) r5) f (seq p1 (seq p2 (seq p3 (seq p4 p5)))) ts (on_read p1 (seq p2 (seq p3 (seq p4 p5))) h1 (on_read p2 (seq p3 (seq p4 p5)) h2 (on_read p3 (seq p4 p5) h3 (on_read p4 p5 h4 (on_last h5 refl)))))

-- six parts
module _ {A B D E F G C : Type 0} (f : A × (B × (D × (E × (F × (G))))) → C) (p1 : Parser A) (p2 : Parser B) (p3 : Parser D) (p4 : Parser E) (p5 : Parser F) (p6 : Parser G) (ts : List Token) where
  pub stops_2_of_6 : (x1 : A) (r1 : List Token) → p1 ts ≡ Read x1 r1 → (end : Place) (e : Stop (Refusal ParseKind)) → Fails end e (p2 r1) → Fails end e (to f (seq p1 (seq p2 (seq p3 (seq p4 (seq p5 p6))))) ts)
  stops_2_of_6 x1 r1 h1 end e h = held (Fails end e) f (seq p1 (seq p2 (seq p3 (seq p4 (seq p5 p6))))) ts (on_read p1 (seq p2 (seq p3 (seq p4 (seq p5 p6)))) h1 (on_stop p2 (seq p3 (seq p4 (seq p5 p6))) end e h))

  pub stops_3_of_6 : (x1 : A) (r1 : List Token) → p1 ts ≡ Read x1 r1 → (x2 : B) (r2 : List Token) → p2 r1 ≡ Read x2 r2 → (end : Place) (e : Stop (Refusal ParseKind)) → Fails end e (p3 r2) → Fails end e (to f (seq p1 (seq p2 (seq p3 (seq p4 (seq p5 p6))))) ts)
  stops_3_of_6 x1 r1 h1 x2 r2 h2 end e h = held (Fails end e) f (seq p1 (seq p2 (seq p3 (seq p4 (seq p5 p6))))) ts (on_read p1 (seq p2 (seq p3 (seq p4 (seq p5 p6)))) h1 (on_read p2 (seq p3 (seq p4 (seq p5 p6))) h2 (on_stop p3 (seq p4 (seq p5 p6)) end e h)))

  pub stops_4_of_6 : (x1 : A) (r1 : List Token) → p1 ts ≡ Read x1 r1 → (x2 : B) (r2 : List Token) → p2 r1 ≡ Read x2 r2 → (x3 : D) (r3 : List Token) → p3 r2 ≡ Read x3 r3 → (end : Place) (e : Stop (Refusal ParseKind)) → Fails end e (p4 r3) → Fails end e (to f (seq p1 (seq p2 (seq p3 (seq p4 (seq p5 p6))))) ts)
  stops_4_of_6 x1 r1 h1 x2 r2 h2 x3 r3 h3 end e h = held (Fails end e) f (seq p1 (seq p2 (seq p3 (seq p4 (seq p5 p6))))) ts (on_read p1 (seq p2 (seq p3 (seq p4 (seq p5 p6)))) h1 (on_read p2 (seq p3 (seq p4 (seq p5 p6))) h2 (on_read p3 (seq p4 (seq p5 p6)) h3 (on_stop p4 (seq p5 p6) end e h))))

  pub stops_5_of_6 : (x1 : A) (r1 : List Token) → p1 ts ≡ Read x1 r1 → (x2 : B) (r2 : List Token) → p2 r1 ≡ Read x2 r2 → (x3 : D) (r3 : List Token) → p3 r2 ≡ Read x3 r3 → (x4 : E) (r4 : List Token) → p4 r3 ≡ Read x4 r4 → (end : Place) (e : Stop (Refusal ParseKind)) → Fails end e (p5 r4) → Fails end e (to f (seq p1 (seq p2 (seq p3 (seq p4 (seq p5 p6))))) ts)
  stops_5_of_6 x1 r1 h1 x2 r2 h2 x3 r3 h3 x4 r4 h4 end e h = held (Fails end e) f (seq p1 (seq p2 (seq p3 (seq p4 (seq p5 p6))))) ts (on_read p1 (seq p2 (seq p3 (seq p4 (seq p5 p6)))) h1 (on_read p2 (seq p3 (seq p4 (seq p5 p6))) h2 (on_read p3 (seq p4 (seq p5 p6)) h3 (on_read p4 (seq p5 p6) h4 (on_stop p5 p6 end e h)))))

  pub stops_6_of_6 : (x1 : A) (r1 : List Token) → p1 ts ≡ Read x1 r1 → (x2 : B) (r2 : List Token) → p2 r1 ≡ Read x2 r2 → (x3 : D) (r3 : List Token) → p3 r2 ≡ Read x3 r3 → (x4 : E) (r4 : List Token) → p4 r3 ≡ Read x4 r4 → (x5 : F) (r5 : List Token) → p5 r4 ≡ Read x5 r5 → (end : Place) (e : Stop (Refusal ParseKind)) → Fails end e (p6 r5) → Fails end e (to f (seq p1 (seq p2 (seq p3 (seq p4 (seq p5 p6))))) ts)
  stops_6_of_6 x1 r1 h1 x2 r2 h2 x3 r3 h3 x4 r4 h4 x5 r5 h5 end e h = held (Fails end e) f (seq p1 (seq p2 (seq p3 (seq p4 (seq p5 p6))))) ts (on_read p1 (seq p2 (seq p3 (seq p4 (seq p5 p6)))) h1 (on_read p2 (seq p3 (seq p4 (seq p5 p6))) h2 (on_read p3 (seq p4 (seq p5 p6)) h3 (on_read p4 (seq p5 p6) h4 (on_read p5 p6 h5 (on_last_stop end e h))))))

  pub read_6 : (x1 : A) (r1 : List Token) → p1 ts ≡ Read x1 r1 → (x2 : B) (r2 : List Token) → p2 r1 ≡ Read x2 r2 → (x3 : D) (r3 : List Token) → p3 r2 ≡ Read x3 r3 → (x4 : E) (r4 : List Token) → p4 r3 ≡ Read x4 r4 → (x5 : F) (r5 : List Token) → p5 r4 ≡ Read x5 r5 → (x6 : G) (r6 : List Token) → p6 r5 ≡ Read x6 r6 → to f (seq p1 (seq p2 (seq p3 (seq p4 (seq p5 p6))))) ts ≡ Read (f (x1, (x2, (x3, (x4, (x5, x6)))))) r6
  read_6 x1 r1 h1 x2 r2 h2 x3 r3 h3 x4 r4 h4 x5 r5 h5 x6 r6 h6 = held (λ o. o ≡ Read (f (x1, (x2, (x3, (x4, (x5, x6)))))) r6) f (seq p1 (seq p2 (seq p3 (seq p4 (seq p5 p6))))) ts (on_read p1 (seq p2 (seq p3 (seq p4 (seq p5 p6)))) h1 (on_read p2 (seq p3 (seq p4 (seq p5 p6))) h2 (on_read p3 (seq p4 (seq p5 p6)) h3 (on_read p4 (seq p5 p6) h4 (on_read p5 p6 h5 (on_last h6 refl))))))
