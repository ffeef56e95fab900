-- the keys of the tables
pub mod Tables
-- tables without an entry
pub mod NoTables
-- the entries of the tables for a definition, and for the owner of a store
pub mod Lookups
