-- Octets: the choice by a test, and the numbers that octets stand for.
pub mod Pick
pub mod Number
